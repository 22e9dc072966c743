-- for `asked_item`, `json_exists`, `json_value`, `json_value_field`, `query_one` and `single_item`
mod Outcomes
-- for `query_items` and `rest_text`
mod Wrapping
-- for `items_field`, `rest_text` and `some_field`
mod QueryFields
