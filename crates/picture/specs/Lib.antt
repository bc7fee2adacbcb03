-- What the functions of picture promise: Pages, of the page that each is lent.
pub mod Pages
