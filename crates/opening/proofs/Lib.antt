-- Fill: a list filled from its first place on. Queue, Rising: the search for true distances in rising order. Chain, Offers, Held: how one list holds it.
-- Truth: what a list of true distances judges. Promise: from the model's answer to what the public calls promise.
pub mod Fill
pub mod Queue
pub mod Rising
pub mod Chain
pub mod Offers
pub mod Held
pub mod Truth
pub mod Promise
