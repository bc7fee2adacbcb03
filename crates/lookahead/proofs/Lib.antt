-- For callers: Meaning (the window's cells, and number 9's case) and Fresh (the lent lists from call to call). The others hold inside.
mod Blanks
mod Stores
mod Grow
mod Levels
mod Lowering
mod Weighing
mod Seeing
pub mod Meaning
mod Aiming
mod Rising
mod Linking
mod Tracing
pub mod Fresh
