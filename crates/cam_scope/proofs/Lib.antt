mod Naming
mod Starts
