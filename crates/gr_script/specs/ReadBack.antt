-- When a line of a text is read as what was to be said there.
use Rattle.std.specs.Prelude.{◌≡◌, List, ℕ, false, Some, Ok, IsTrue}
use Rattle.std.specs.Str.{is_utf8}
use Rattle.gr_script.specs.declared.items.Setting.{Setting}
use Rattle.gr_script.specs.declared.saying.Saying.{Saying}
use Rattle.gr_script.specs.Cuts.{text_said, is_skipped}
use Rattle.gr_script.specs.Fields.{fits, form_of}
use Rattle.gr_script.specs.Forms.{fields}
use Rattle.gr_script.specs.Items.{items_at}
use Rattle.gr_script.specs.Texts.{IsLine}

pub record IsReadBack (setting : Setting) (saying : Saying) (line : List ℕ) : Type 0 where
  pub alone : IsLine line
  pub readable : IsTrue (is_utf8 line)
  pub whole : text_said line ≡ line
  pub said : is_skipped line ≡ false
  pub form : form_of line ≡ Some saying.kind
  pub fit : IsTrue (fits (fields saying.kind) line)
  pub read : items_at setting (fields saying.kind) line ≡ Ok saying.items
