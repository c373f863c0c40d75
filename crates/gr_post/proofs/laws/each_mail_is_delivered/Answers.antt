use Rattle.gr_post.proofs.Counting.{draws_mails, delivers_each, ends_once}
use Rattle.gr_post.proofs.laws.each_mail_is_delivered.Goals as goal

pub returns-clause-mails : goal.returns-clause-mails
returns-clause-mails c = draws_mails

pub returns-clause-times : goal.returns-clause-times
returns-clause-times c = delivers_each

pub returns-clause-end : goal.returns-clause-end
returns-clause-end c = ends_once
