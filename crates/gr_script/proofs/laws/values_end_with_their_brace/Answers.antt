use Rattle.gr_script.proofs.Braces.{braced_piece, piece_braced, other_piece}
use Rattle.gr_script.proofs.laws.values_end_with_their_brace.Goals as goal

pub returns : goal.returns
returns c = record { braced = braced_piece; ended = piece_braced; other = other_piece }
