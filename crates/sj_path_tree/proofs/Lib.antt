-- for `covers_expr`, `covers_pred`, `covers_step`, `covers_sub` and `covers_subs`
pub mod Names
-- for `subs_nodes`, and for whoever goes through a list of subscripts
pub mod Rows
