mod Ended
mod OnTheirPairs
mod LastParts
