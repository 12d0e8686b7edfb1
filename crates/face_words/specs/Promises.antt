-- What the words promise. Assumes nothing.
use Rattle.std.specs.Prelude.{ℕ, true, List, ◌≡◌}
use Rattle.device.specs.declared.Device.{Device}
use Rattle.face_words.specs.Words.{packed, is_record, device_of, is_settings, settings_of}

pub record Promises : Type 0 where
  -- the record that comes back as words is the one that goes in with them
  pub handed_on : (d : Device) → (is_record (packed d) ≡ true) × (device_of (packed d) ≡ d)
  -- the words of a record say no more than the record, and the settings are their words
  pub same_words : (ws : List ℕ) → is_record ws ≡ true → packed (device_of ws) ≡ ws
  pub same_durations : (ws : List ℕ) → is_settings ws ≡ true → (settings_of ws).ticks ≡ ws
