use Rattle.gr_vector.proofs.Tops.{member_is}
use Rattle.gr_vector.proofs.vector.numbers_of.Goals as goal

pub returns : goal.returns
returns c =
    member_is c.from.result c.args.member c.index-members-from.result c.args.members.now c.from.ensures c.index-members-from.is
    c.requires.a_member
    c.requires.of_eight c.requires.eight
