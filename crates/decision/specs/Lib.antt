-- Laying: the moves of a decision, laid after it. Ready: what a decision past its checks takes, and what the public functions promise.
-- Inner: what the functions inside promise each other.
pub mod Laying
pub mod Ready
pub mod Inner
