-- What Intel HEX by words promises. Assumes nothing.
use Rattle.std.specs.Prelude.{ℕ, List, ◌≢◌, ◌≡◌}
use Rattle.face_hex.specs.Words.{text_out, text_in}

pub record Promises : Type 0 where
  -- a text that is not written or not read, for whatever number, leaves the lent memory as it was
  pub text_kept : (array text word : List ℕ) → (text_out array text word).number ≢ 0 → (text_out array text word).memory ≡ text
  pub array_kept : (text array word : List ℕ) → (text_in text array word).number ≢ 0 → (text_in text array word).memory ≡ array
