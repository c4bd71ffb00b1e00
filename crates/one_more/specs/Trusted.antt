pub mod OneMoreLeaf
