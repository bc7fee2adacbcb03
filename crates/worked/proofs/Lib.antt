-- P1 to P12 as one proved list, and the other worked lines of document 01:
pub mod Cases
pub mod More
-- Cases for what these and the laws leave open:
pub mod PinsDecision
pub mod PinsSlow
pub mod PinsRoutes
pub mod PinsChecks
pub mod PinsOpening
pub mod PinsRide
pub mod PinsSettling
pub mod PinsTable
pub mod PinsBenches
pub mod PinsRenewal
pub mod PinsText
pub mod PinsFloorWritten
pub mod PinsLine
pub mod PinsDepth
pub mod PinsSays
-- The paper's Theorem 7.8 fails at depth 2:
pub mod ThirdTrial
-- What they share:
pub mod Hall
pub mod Text
