-- What follows from demand 3; calls made by hand; what a program made of its acts answers; and that each worthless program is refuted.
pub mod Parts
pub mod Frames
pub mod Made
pub mod Holding
pub mod OneNode
pub mod Refuted
pub mod Relabels
pub mod Growths
pub mod Stars
pub mod Loads
pub mod BestFits
pub mod Wastes
