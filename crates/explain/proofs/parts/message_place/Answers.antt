use borrow.Author.Tests.{lt-ltb, le-ltb}
use Rattle.explain.specs.Parts.{message_place}
use Rattle.explain.proofs.parts.message_place.Goals as goal

pub returns-then-byte-metadata : goal.returns-then-byte-metadata
unfolding message_place
returns-then-byte-metadata c = rw (lt-ltb _ _ c.if-byte-metadata.true) c.place_at.ensures

pub returns : goal.returns
unfolding message_place
returns c = rw (le-ltb _ _ c.if-byte-metadata.false) c.place_at-2.ensures
