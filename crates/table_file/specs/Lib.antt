-- Promises: what the calls of the table file promise. Site: the figures of a table that differ from a site's opening figures, and what the writer's checks say. Trailer: the
-- trailer of edition 2, by what it names and counts.
pub mod Promises
pub mod Site
pub mod Trailer
