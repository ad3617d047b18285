-- That nothing is wasted: counts and rows; levels with at most one lone pair each, and what that leaves room for; best fit on labels, and the free
-- labels of a history; one request, every list of them, and what the calls return and reply.
pub mod CountBelow
pub mod RowNumbers
pub mod OneEach
pub mod LevelCounts
pub mod Found
pub mod FreeLabels
pub mod Request
pub mod Requests
pub mod Theorem
