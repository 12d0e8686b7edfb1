-- A frame leaves an output as long as it was, and a session is four lines, each written behind the one before it. Assumes
-- nothing.
use Rattle.std.proofs.Common.{ℕ, ◌≡◌, ◌∙◌, ap, refl, Bool, true, false, List, length}
use lib.Dec.{eqb}
use Rattle.cells.proofs.Places.{length-each}
use Rattle.std.proofs.KnownBytes.{Appends-trans}
use Rattle.std.specs.Io.KnownBytes.{Appends}
use Rattle.std.specs.declared.option.Option.{Option}
use Rattle.device.specs.declared.Device.{Device}
use Rattle.settings.specs.declared.Settings.{Settings}
use Rattle.part.specs.Frame.{Call, Lent, lengths_of, number_for, frame, Came, Meets}
use Rattle.session.specs.Turn.{turn_of, line_of, enable, program, poll, read, session}

-- a frame leaves as many bytes of output as it was lent, and so does a call that meets it
pub as_long : (c : Call) (m : Lent) → length (frame c m).lent.output ≡ length m.output
unfolding frame
as_long c m = by (eqb (number_for c (lengths_of c m)) 0) refl
  where
    by : (b : Bool) → eqb (number_for c (lengths_of c m)) 0 ≡ b → length (frame c m).lent.output ≡ length m.output
    by true t = rw t (length-each _ m.output)
    by false t = rw t

pub left_as_long : (c : Call) (m : Lent) (came : Came) (n : Lent) → Meets c m came n → length n.output ≡ length m.output
left_as_long c m came n e = ap (λ r. length r.lent.output) e ∙ as_long c m

-- four lines, each of the frame on what the one before it left, are the session's
pub four : (d d1 d2 d3 : Device) (s s1 s2 s3 : Settings) (m m1 m2 m3 : Lent) (o o1 o2 o3 o4 : Option (List ℕ))
    → d1 ≡ (turn_of d s enable 0 m).reply.device → s1 ≡ s → m1 ≡ (turn_of d s enable 0 m).lent
    → d2 ≡ (turn_of d1 s1 program 1 m1).reply.device → s2 ≡ s1 → m2 ≡ (turn_of d1 s1 program 1 m1).lent
    → d3 ≡ (turn_of d2 s2 poll 1 m2).reply.device → s3 ≡ s2 → m3 ≡ (turn_of d2 s2 poll 1 m2).lent
    → Appends o o1 (line_of d s enable 0 m) → Appends o1 o2 (line_of d1 s1 program 1 m1)
    → Appends o2 o3 (line_of d2 s2 poll 1 m2) → Appends o3 o4 (line_of d3 s3 read 2000 m3)
    → Appends o o4 (session d s m)
unfolding session
four d d1 d2 d3 s s1 s2 s3 m m1 m2 m3 o o1 o2 o3 o4 a i b e j f g k h p q u v =
    let x = turn_of d s enable 0 m in
    let y = turn_of x.reply.device s program 1 x.lent in
    let z = turn_of y.reply.device s poll 1 y.lent in
    let second : Appends o1 o2 (line_of x.reply.device s program 1 x.lent) = rw (a, i, b) at q in
    let third : Appends o2 o3 (line_of y.reply.device s poll 1 y.lent) = rw (e, j, f, a, i, b) at u in
    let fourth : Appends o3 o4 (line_of z.reply.device s read 2000 z.lent) = rw (g, k, h, e, j, f, a, i, b) at v in
    Appends-trans o o1 o4 _ _ p (Appends-trans o1 o2 o4 _ _ second (Appends-trans o2 o3 o4 _ _ third fourth))
