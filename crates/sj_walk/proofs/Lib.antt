-- for `Elements::next`
mod Walking
