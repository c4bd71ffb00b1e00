pub mod FaninLaws
