-- All items of a text, of its tokens as the code has them.
use Rattle.std.specs.Prelude.{List}
use Rattle.rows.specs.Rows.{Item}
use Rattle.token_words.specs.declared.items.Items.{Items}
use Rattle.token_words.specs.Items.{items_of}

abbrev pub items_in : Items → List Item
items_in t = items_of t.tokens.text.bytes.now t.tokens.roles.now t.tokens.offsets.now t.values.now
