-- for `apply`
mod Casts
