-- Document 01 as definitions: what a job file means, what its answer is, and what each public call does to each
-- lent byte. A reader who believes the first six files and crate `chains` needs no other to know what is promised.
pub mod Numbers
pub mod Simplex
pub mod Reading
pub mod Answer
pub mod Writing
pub mod Promise
-- laws of the definitions
pub mod Listed
pub mod Lookup
pub mod Vertices
pub mod Moves
pub mod Facets
pub mod Items
pub mod Opened
pub mod EditLaws
pub mod Matrix
-- no second outcome meets a promise, and every file has one
pub mod Unique
pub mod Outcome
pub mod Worked
-- what is known of every accepted job
pub mod Sound
pub mod Accepted
pub mod Rims
-- the round trip: a job's normal form reads back as the job
pub mod Bytes
pub mod Normal
pub mod RoundTrip
-- sets of simplices as marks by rank
pub mod Marks
-- which refusals a file can have, where they point, and what a caller can read off an outcome
pub mod Places
pub mod Results
-- what is known of an answer's members
pub mod Members
-- demand 3 about sets of simplices: its definitions, and what their laws speak of
pub mod Sets
pub mod SetLaws
pub mod SetBoundary
