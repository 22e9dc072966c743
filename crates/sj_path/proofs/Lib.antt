-- for `Level::access_from`, `Level::and_from`, `Level::or_from`, `Level::product_from` and `Level::sum_from`
pub mod LevelTurns
