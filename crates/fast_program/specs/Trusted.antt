pub mod FastProgram
