-- Contract: what the lookahead takes and promises, over the model. The others say what holds inside: Marks and Rings of the marking,
-- Costs of the relaxation, Bests of the new figure and the target, Way of the route.
pub mod Contract
pub mod Marks
pub mod Rings
pub mod Costs
pub mod Bests
pub mod Way
