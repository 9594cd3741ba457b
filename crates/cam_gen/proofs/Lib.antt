pub mod DrawnSteps
pub mod PlainWords
pub mod Numerals
pub mod ReadWords
pub mod Variables
pub mod MadeLines
pub mod MadeText
pub mod MadeCalls
pub mod MadeSteps
pub mod MadeVariables
pub mod AllAccepted
mod StormNumbers
