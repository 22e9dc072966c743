-- for `walk_is_all_reached`
pub mod Walked
-- for `Spans` and `Meanings`
pub mod Given
pub mod Spans
-- for `forward_items` and `forward_paths_end_well`
pub mod Meanings
-- for `forward_items_lie_apart`
pub mod Apart
pub mod Placed
