mod Latest
mod Tables
