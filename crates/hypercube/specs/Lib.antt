-- The published definitions, in document 01's order: labels, subcubes, the families, the first free member, document 02's best fit, (a), what each
-- strategy chooses, replies; and document 02's, (g).
-- Before them what a table of causes and a call's checks are made of; after them what a loop has filled.
pub mod Lists
pub mod Tests
pub mod Conditions
pub mod Checks
pub mod Bits
pub mod Labels
pub mod Subcubes
pub mod Gray
pub mod Families
pub mod BestFit
pub mod Maximal
pub mod Choice
pub mod Levels
pub mod Words
pub mod Replies
pub mod Refusals
pub mod Formed
pub mod ByNodes
pub mod Filled
