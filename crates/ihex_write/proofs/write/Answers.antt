-- `ihex_write::write` meets its contract: what is refused is refused first, and the size alone says how long the text
-- is. Assumes nothing.
use Rattle.std.proofs.Common.{◌≡◌, true, length, sym, ◌∙◌, arith}
use borrow.Author.Tests.{lt-ltb, le-ltb}
use Rattle.memories.specs.Sizes.{is_array}
use Rattle.memories.proofs.Long.{array_long}
use Rattle.ihex_write.specs.Writer.{text_of, written_of, output_of}
use Rattle.ihex_write.proofs.Lengths.{text_length}
use Rattle.ihex_write.proofs.write.Goals as goal
use Rattle.ihex_write.proofs.write.Goals.{After-characters_for-characters}

-- What is known once the characters are counted: the size is allowed, and the text has so many.
allowed : (c : After-characters_for-characters) → is_array (length c.args.array.now) ≡ true
allowed c = sym c.is_array.ensures ∙ c.if-not-is_array.false

counted : (c : After-characters_for-characters) → c.characters_for-characters.result ≡ length (text_of c.args.array.now)
counted c = c.characters_for-characters.ensures ∙ sym (text_length _ (array_long _ (allowed c)).1)

pub returns-then-not-is_array : goal.returns-then-not-is_array
unfolding written_of output_of
returns-then-not-is_array c =
    let wrong = sym c.is_array.ensures ∙ c.if-not-is_array.true in
    record { result_value = rw wrong; output_after = rw wrong }

pub returns-then-output-characters : goal.returns-then-output-characters
unfolding written_of output_of
returns-then-output-characters c =
    let known = (goal.at.returns-then-output-characters c).After-characters_for-characters in
    let short = lt-ltb _ _ (rw (counted known) at c.if-output-characters.true) in
    record { result_value = rw (allowed known, short); output_after = rw (allowed known, short) }

pub put_text-requires : goal.put_text-requires
put_text-requires c =
    let known = (goal.at.put_text-requires c).After-characters_for-characters in
    let long = array_long _ (allowed known) in
    (omega (arith, counted known), long.1, long.2)

pub returns : goal.returns
unfolding written_of output_of
returns c =
    let known = (goal.at.returns c).After-characters_for-characters in
    let fits = le-ltb _ _ (rw (counted known) at c.if-output-characters.false) in
    record {
      result_value = rw (allowed known, fits, counted known);
      output_after = rw (allowed known, fits) c.put_text.ensures;
    }
