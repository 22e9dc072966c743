-- for `check`, `show`, `widths` and `run_in_memory`
mod Files
-- for `widths_of` and `line_of`
mod Mapped
-- for `first_end`, `last_end` and `fewer`
mod Feeds
-- for `words_of_any`, `words_of_unique` and `run_in_memory`
mod Running
