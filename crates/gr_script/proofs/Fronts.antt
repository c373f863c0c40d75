-- A client's line begins with a client's number, any other with its word.
use Rattle.std.proofs.Common.{◌≡◌, ◌∷◌, drop, true, false, Some, refl}
use Rattle.std.specs.Char.{is_ascii_digit}
use Rattle.std.specs.List.{list_all}
use Rattle.gr_script.specs.declared.forms.FieldKind.TheVariants as field
use Rattle.gr_script.specs.declared.forms.LineKind.{LineKind}
use Rattle.gr_script.specs.declared.forms.LineKind.TheVariants as kind
use Rattle.gr_script.specs.declared.operation.Keyed.TheVariants.{Get}
use Rattle.gr_script.specs.declared.operation.Operation.TheVariants.{OfKey, OfValue, OfPair}
use Rattle.gr_script.specs.declared.operation.Paired.TheVariants.{ReplaceIf}
use Rattle.gr_script.specs.declared.operation.Valued.TheVariants.{Put}
use Rattle.gr_script.specs.Cuts.{is_skipped}
use Rattle.gr_script.specs.Forms.{word, fields, is_clients, client_kinds, other_kinds, kind_of}
use Rattle.gr_script.proofs.Operations.{word_called}

pub client_fields : (line : LineKind) → is_clients line ≡ true → fields line ≡ field.Client ∷ field.Word ∷ drop 2 (fields line)
client_fields (kind.Call (OfKey operation)) is = refl
client_fields (kind.Call (OfValue operation)) is = refl
client_fields (kind.Call (OfPair operation)) is = refl
client_fields _ is = cc

pub client_kind : (line : LineKind) → is_clients line ≡ true → kind_of client_kinds (word line) ≡ Some line
client_kind (kind.Call operation) is = word_called operation
client_kind _ is = cc

pub other_fields : (line : LineKind) → is_clients line ≡ false → fields line ≡ field.Word ∷ drop 1 (fields line)
other_fields (kind.Call operation) isnt = absurd cc
other_fields kind.Georep isnt = refl
other_fields _ isnt = cc

pub other_kind : (line : LineKind) → is_clients line ≡ false → kind_of other_kinds (word line) ≡ Some line
other_kind (kind.Call operation) isnt = absurd cc
other_kind kind.Georep isnt = refl
other_kind _ isnt = cc

-- no word begins as a number or as a remark does
pub no_number : (line : LineKind) → list_all is_ascii_digit (word line) ≡ false
no_number (kind.Call (OfKey Get)) = refl
no_number (kind.Call (OfKey _)) = refl
no_number (kind.Call (OfValue Put)) = refl
no_number (kind.Call (OfValue _)) = refl
no_number (kind.Call (OfPair ReplaceIf)) = refl
no_number kind.Georep = refl
no_number _ = refl

pub no_remark : (line : LineKind) → is_skipped (word line) ≡ false
no_remark (kind.Call (OfKey Get)) = refl
no_remark (kind.Call (OfKey _)) = refl
no_remark (kind.Call (OfValue Put)) = refl
no_remark (kind.Call (OfValue _)) = refl
no_remark (kind.Call (OfPair ReplaceIf)) = refl
no_remark kind.Georep = refl
no_remark _ = refl
