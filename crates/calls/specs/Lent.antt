-- What a call lends. Assumes nothing.
use Rattle.std.specs.Prelude.{◌≡◌}
use Rattle.calls.specs.declared.Lent.{Lent}

-- afterwards the same three memories are lent
abbrev pub SameMemories : Lent → Lent → Type 0
SameMemories before after =
    (after.array.ghost_name ≡ before.array.ghost_name) ×
    ((after.register.ghost_name ≡ before.register.ghost_name) × (after.output.ghost_name ≡ before.output.ghost_name))
