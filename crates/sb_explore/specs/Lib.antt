pub mod Exploring
