-- for `sqljson_check`, `sqljson_show` and `sqljson_widths`
mod Endings
