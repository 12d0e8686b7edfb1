-- One call through the ledger: a frame of the part for an account. Assumes nothing.
use Rattle.std.specs.Prelude.{ℕ, Bool, cond, ◌&&◌, ◌≡◌, eqb}
use Rattle.refusals.specs.declared.Refusal.{Refusal}
use Rattle.refusals.specs.Refusals.{number_of}
use Rattle.calls.specs.declared.Lengths.{Lengths}
use Rattle.part.specs.Frame as part
use Rattle.part.specs.Frame.{Call, Lent, Reply, lengths_of, number_for, refused}
use Rattle.ledger.specs.Ledger.{Ledger, shut, booked}

-- refusal 9 is given, after all others
abbrev pub shut_out : Call → Lengths → ℕ → Ledger → Bool
shut_out c lengths account l = eqb (number_for c lengths) 0 && shut account l

-- what comes back
unfoldable pub replied : Call → Lengths → ℕ → Ledger → Reply
replied c lengths account l =
    cond (shut_out c lengths account l) (refused (number_of Refusal.Account) c.device) (part.replied c lengths)

-- the result of a call: what comes back, what the memories then hold, and the ledger
pub record Result : Type 0 where
  pub reply : Reply
  pub lent : Lent
  pub ledger : Ledger

unfoldable pub frame : Call → Lent → ℕ → Ledger → Result
frame c m account l =
    record {
      reply = replied c (lengths_of c m) account l;
      lent = cond (shut_out c (lengths_of c m) account l) m (part.frame c m).lent;
      ledger = booked c.device.busy c.signals (replied c (lengths_of c m) account l) account l;
    }

-- the contract of a call
abbrev pub Meets : Call → Lent → ℕ → Ledger → Reply → Lent → Ledger → Type 0
Meets c m account l reply after kept = record { reply = reply; lent = after; ledger = kept } ≡ frame c m account l
