use Rattle.gr_picture.proofs.telling.tell.Goals as goal

pub returns-in-ReadFault-clause-part : goal.returns-in-ReadFault-clause-part
returns-in-ReadFault-clause-part g c = rw c.in-ReadFault.is c.write_each-in-ReadFault.ensures.part

pub returns-in-TooLarge-clause-whole : goal.returns-in-TooLarge-clause-whole
returns-in-TooLarge-clause-whole g c = rw c.in-TooLarge.is c.write_each-in-TooLarge.ensures.whole

pub returns-in-TooLarge-clause-part : goal.returns-in-TooLarge-clause-part
returns-in-TooLarge-clause-part g c = rw c.in-TooLarge.is c.write_each-in-TooLarge.ensures.part

pub returns-in-Line-clause-whole : goal.returns-in-Line-clause-whole
returns-in-Line-clause-whole g c = rw (c.in-Line.is, ← c.format-number.ensures.text) c.write_each-in-Line.ensures.whole

pub returns-in-Line-clause-part : goal.returns-in-Line-clause-part
returns-in-Line-clause-part g c = rw (c.in-Line.is, ← c.format-number.ensures.text) c.write_each-in-Line.ensures.part

pub returns-in-WriteFault-clause-whole : goal.returns-in-WriteFault-clause-whole
returns-in-WriteFault-clause-whole g c = rw c.in-WriteFault.is c.write_each-in-WriteFault.ensures.whole

pub returns-in-WriteFault-clause-part : goal.returns-in-WriteFault-clause-part
returns-in-WriteFault-clause-part g c = rw c.in-WriteFault.is c.write_each-in-WriteFault.ensures.part

pub returns-in-Memory-clause-whole : goal.returns-in-Memory-clause-whole
returns-in-Memory-clause-whole g c = rw c.in-Memory.is c.write_each-in-Memory.ensures.whole

pub returns-in-Memory-clause-part : goal.returns-in-Memory-clause-part
returns-in-Memory-clause-part g c = rw c.in-Memory.is c.write_each-in-Memory.ensures.part
