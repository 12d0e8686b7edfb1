-- What the library finds in a list of rows is what the definition looks up. Assumes nothing.
use Rattle.std.specs.Prelude.{ℕ, ◌≡◌, Bool, true, false, cond, List, [], ◌∷◌, eqb, Option, Some, None, option_map, unwrap_or}
use Rattle.std.specs.List.{find}
use Rattle.std.proofs.Common.{Bor, refl, sym, ap, eqb-true}
use Rattle.opcodes.specs.declared.Row.{Row}
use Rattle.opcodes.specs.Rows.{lookup, unlisted}

-- a row with another opcode
abbrev pub coded : ℕ → Row → Row
coded code r =
    record {
      code = code;
      bytes = r.bytes;
      first = r.first;
      most = r.most;
      boundary = r.boundary;
      latch = r.latch;
      busy = r.busy;
      asleep = r.asleep;
      command = r.command;
    }

-- the first row with that opcode; where there is none, one that says so
abbrev pub first_with : List Row → ℕ → Row
first_with rs code = coded code (unwrap_or (find (λ r. eqb r.code code) rs) (unlisted 0))

pub first_is_looked_up : (rs : List Row) (code : ℕ) → first_with rs code ≡ lookup rs code
unfolding lookup
first_is_looked_up [] code = refl
first_is_looked_up (r ∷ rs) code = by (eqb r.code code) refl (first_is_looked_up rs code)
  where
    by : (b : Bool) → eqb r.code code ≡ b → first_with rs code ≡ lookup rs code
        → coded code (unwrap_or (cond b (Some r) (find (λ r. eqb r.code code) rs)) (unlisted 0)) ≡ cond b r (lookup rs code)
    by true t e = ap (λ (n : ℕ). coded n r) (sym (eqb-true r.code code t))
    by false t e = e

-- what is found, looked at where it lies
pub seen : (o : Option (Bor Row)) (d : Bor Row) (m : Option Row) → option_map (λ (x : Bor Row). x.now) o ≡ m
    → (unwrap_or o d).now ≡ unwrap_or m d.now
seen None d m e = rw (← e)
seen (Some x) d m e = rw (← e)
