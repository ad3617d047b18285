-- The six worthless programs of document 01, and the part of the demands that each breaks; of document 02 three more, (b),
-- two each, (e), (f) and (a), and three, (g); and two of these again, by what (n) promises.
pub mod Programs
pub mod Parts
pub mod Relabels
pub mod Growths
pub mod Stars
pub mod Loads
pub mod BestFits
pub mod Wastes
