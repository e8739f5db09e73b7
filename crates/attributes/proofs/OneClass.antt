-- Document 01, 'Burst', on credits: a single heard port without collision gets exactly one of six classes, and octets go with a readable frame alone.
--   falls, falls_once == every burst falls in the class that class_of names, and in no other
--   single_port, other_port, colliding_port == at which port that class is credited, of a burst as the repeater met it
--   six_together      == the six classes together are credited with one at that port, and with none at any other
--   octets_of_frames, octets_fit == a port's octets are those of its readable frame, and have its size
-- Assumes nothing.
use Rattle.std.proofs.Common.{◌≡◌, ℕ, ◌+◌, ◌*◌, ◌<◌, ◌≤◌, Bool, true, false, cond, ◌&&◌, eqb, ltb, List, [], ◌∷◌, sym, refl, ◌∙◌, arith, ltb-false, ltb-true, le-ltb, lt-ltb, eq-eqb, ne_eqb, eqb-true}
use Rattle.std.specs.Prelude.{Some, None}
use Rattle.ports.specs.Sets.{is_at}
use Rattle.ports.specs.Each.{each}
use Rattle.ports.proofs.Sets.{not_at}
use Rattle.record.specs.declared.Burst.{Burst}
use Rattle.attributes.specs.declared.Nine.{Nine}
use Rattle.attributes.specs.declared.Met.{Met}
use Rattle.attributes.specs.declared.Share.{Share}
use Rattle.attributes.specs.Nine.{readable_frames, readable_octets, fcs_errors, alignment_errors, frames_too_long, short_events, runts, nothing_counted}
use Rattle.attributes.specs.Credits.{shortest, longest, class_of, class_port, due_of, share_of, one, in_class, credit_for, credits_of}
use Rattle.attributes.specs.Credits.{credit_of}
use Rattle.attributes.specs.OneClass.{classes, credits_in, Among, here, later, Falls, short, runt, too_long, misaligned, faulty, good, OnlyClass}

-- a burst of TP0 with this duration, octets, FCS and dribble bits
abbrev burst : ℕ → ℕ → Bool → ℕ → Burst
burst d n bad k = record {
  mask = 1;
  fcs_bad = bad;
  rate_error = false;
  collision_signal = false;
  loopback_missing = false;
  sqe_test = false;
  d = d;
  n = n;
  k = k;
  c = 0;
  x = 0;
}

abbrev frame : Burst
frame = burst 600 64 false 0

-- the shares in it of a port heard alone, and of one heard with others
abbrev alone : Share
alone = record { heard = true; single = true; collision = false; class = class_of 78 frame; cut = false; changed = false }

abbrev jammed : Share
jammed = record { heard = true; single = false; collision = true; class = class_of 78 frame; cut = false; changed = false }

abbrev with_class : Share → ℕ → Share
with_class share class = record {
  heard = share.heard;
  single = share.single;
  collision = share.collision;
  class = class;
  cut = share.cut;
  changed = share.changed;
}

-- Every burst falls in one class, and in no other.
of_each_class : (class_of 78 (burst 77 9 false 0) ≡ short_events)
    × (class_of 78 (burst 78 9 false 0) ≡ runts)
    × (class_of 78 (burst 600 63 true 3) ≡ runts)
    × (class_of 78 (burst 13000 1519 true 3) ≡ frames_too_long)
    × (class_of 78 (burst 600 64 true 3) ≡ alignment_errors)
    × (class_of 78 (burst 600 64 true 0) ≡ fcs_errors)
    × (class_of 78 (burst 13000 1518 false 3) ≡ readable_frames)
    × (class_of 78 frame ≡ readable_frames)
unfolding class_of
of_each_class = (refl, refl, refl, refl, refl, refl, refl, refl)

pub falls : (limit : ℕ) (b : Burst) → Falls limit b (class_of limit b)
unfolding class_of
falls limit b = go_short (ltb b.d limit) refl
  where
    go_fcs : limit ≤ b.d → shortest ≤ b.n → b.n ≤ longest → b.fcs_bad ≡ true → (t : Bool) → ltb 0 b.k ≡ t
        → Falls limit b (cond t alignment_errors fcs_errors)
    go_fcs d m l f true e = misaligned d m l f (ltb-true 0 b.k e)
    go_fcs d m l f false e = let h = ltb-false 0 b.k e in faulty d m l f (omega arith)

    go_good : limit ≤ b.d → shortest ≤ b.n → b.n ≤ longest → (t : Bool) → b.fcs_bad ≡ t
        → Falls limit b (cond t (cond (ltb 0 b.k) alignment_errors fcs_errors) readable_frames)
    go_good d m l true e = go_fcs d m l e (ltb 0 b.k) refl
    go_good d m l false e = good d m l e

    go_long : limit ≤ b.d → shortest ≤ b.n → (t : Bool) → ltb longest b.n ≡ t
        → Falls limit b (cond t frames_too_long (cond b.fcs_bad (cond (ltb 0 b.k) alignment_errors fcs_errors) readable_frames))
    go_long d m true e = too_long d (ltb-true longest b.n e)
    go_long d m false e = go_good d m (ltb-false longest b.n e) b.fcs_bad refl

    go_runt : limit ≤ b.d → (t : Bool) → ltb b.n shortest ≡ t
        → Falls limit b
        (cond t runts (cond (ltb longest b.n) frames_too_long (cond b.fcs_bad (cond (ltb 0 b.k) alignment_errors fcs_errors) readable_frames)))
    go_runt d true e = runt d (ltb-true b.n shortest e)
    go_runt d false e = go_long d (ltb-false b.n shortest e) (ltb longest b.n) refl

    go_short : (t : Bool) → ltb b.d limit ≡ t
        → Falls limit b
        (cond t short_events
        (cond (ltb b.n shortest) runts
        (cond (ltb longest b.n) frames_too_long (cond b.fcs_bad (cond (ltb 0 b.k) alignment_errors fcs_errors) readable_frames))))
    go_short true e = short (ltb-true b.d limit e)
    go_short false e = go_runt (ltb-false b.d limit e) (ltb b.n shortest) refl

pub falls_once : (limit : ℕ) (b : Burst) (r : ℕ) → Falls limit b r → class_of limit b ≡ r
unfolding class_of
falls_once limit b r (short d) = rw (lt-ltb b.d limit d)
falls_once limit b r (runt d n) = rw (le-ltb b.d limit d, lt-ltb b.n shortest n)
falls_once limit b r (too_long d n) =
    let m : shortest ≤ b.n = omega arith in
    rw (le-ltb b.d limit d, le-ltb b.n shortest m, lt-ltb longest b.n n)
falls_once limit b r (misaligned d m l f k) =
    rw (le-ltb b.d limit d, le-ltb b.n shortest m, le-ltb longest b.n l, f, lt-ltb 0 b.k k)
falls_once limit b r (faulty d m l f k) = rw (le-ltb b.d limit d, le-ltb b.n shortest m, le-ltb longest b.n l, f, k)
falls_once limit b r (good d m l f) = rw (le-ltb b.d limit d, le-ltb b.n shortest m, le-ltb longest b.n l, f)

-- The six together, of a frame, of a misaligned one and of a frame that collides.
the_six : (credits_in (credit_for alone frame) classes ≡ 1)
    × (credits_in (credit_for (with_class alone alignment_errors) (burst 600 64 true 3)) classes ≡ 1)
    × (credits_in (credit_for jammed frame) classes ≡ 0)
unfolding credits_in credit_for class_of
the_six = (refl, refl, refl)

pub class_listed : (limit : ℕ) (b : Burst) (r : ℕ) → Falls limit b r → Among r classes
class_listed limit b r (short d) = later (later (later (later here)))
class_listed limit b r (runt d n) = later (later (later (later (later here))))
class_listed limit b r (too_long d n) = later (later (later here))
class_listed limit b r (misaligned d m l f k) = later (later here)
class_listed limit b r (faulty d m l f k) = later here
class_listed limit b r (good d m l f) = here

-- the credit of each class
class_credit : (s : Share) (b : Burst) (r : ℕ) → Among r classes → credit_for s b r ≡ one (in_class s r)
unfolding credit_for
class_credit s b r here = refl
class_credit s b r (later here) = refl
class_credit s b r (later (later here)) = refl
class_credit s b r (later (later (later here))) = refl
class_credit s b r (later (later (later (later here)))) = refl
class_credit s b r (later (later (later (later (later here))))) = refl
class_credit s b r (later (later (later (later (later (later l)))))) = elim l [ ]

-- A single heard port without collision gets exactly the class that its burst falls in.
a_frame_credited : (alone.single ≡ true) × (credits_of alone frame ≡ 1 ∷ 64 ∷ 0 ∷ 0 ∷ 0 ∷ 0 ∷ 0 ∷ 0 ∷ 0 ∷ 0 ∷ 0 ∷ 0 ∷ 0 ∷ [])
unfolding credits_of credit_for class_of each
a_frame_credited = (refl, refl)

one_class : (limit : ℕ) (s : Share) (b : Burst) (r : ℕ) → s.class ≡ class_of limit b → s.single ≡ true → Falls limit b r → OnlyClass (credit_for s b) r
one_class limit s b r k e f = record {
  listed = class_listed limit b r f;
  is = class_credit s b r (class_listed limit b r f) ∙ rw (e, eq-eqb s.class r (k ∙ falls_once limit b r f));
  alone = λ q l n. class_credit s b q l ∙ rw (e, ne_eqb s.class q (λ h. n (sym h ∙ k ∙ falls_once limit b r f)));
}

-- A port that is not single gets none of them.
a_collision_credited : (jammed.single ≡ false) × (credits_of jammed frame ≡ 0 ∷ 0 ∷ 0 ∷ 0 ∷ 0 ∷ 0 ∷ 0 ∷ 1 ∷ 0 ∷ 0 ∷ 0 ∷ 0 ∷ 0 ∷ [])
unfolding credits_of credit_for class_of each
a_collision_credited = (refl, refl)

no_class : (s : Share) (b : Burst) (r : ℕ) → s.single ≡ false → Among r classes → credit_for s b r ≡ 0
no_class s b r e l = class_credit s b r l ∙ rw e

-- the credits of the classes where the class is r
sum_of : (limit : ℕ) (t : Bool) (b : Burst) (r : ℕ) → Falls limit b r
    → one (t && eqb r readable_frames)
    + (one (t && eqb r fcs_errors)
    + (one (t && eqb r alignment_errors) + (one (t && eqb r frames_too_long) + (one (t && eqb r short_events) + (one (t && eqb r runts) + 0)))))
    ≡ one t
sum_of limit false b r f = refl
sum_of limit true b r (short d) = refl
sum_of limit true b r (runt d n) = refl
sum_of limit true b r (too_long d n) = refl
sum_of limit true b r (misaligned d m l f k) = refl
sum_of limit true b r (faulty d m l f k) = refl
sum_of limit true b r (good d m l f) = refl

share_together : (limit : ℕ) (s : Share) (b : Burst) → s.class ≡ class_of limit b → credits_in (credit_for s b) classes ≡ one s.single
unfolding credits_in credit_for
share_together limit s b k = rw k (sum_of limit s.single b (class_of limit b) (falls limit b))

pub at_most_one : (s : Share) (b : Burst) (r : ℕ) → Among r classes → credit_for s b r ≤ 1
at_most_one s b r l = rw (class_credit s b r l) (go (in_class s r))
  where
    go : (t : Bool) → one t ≤ 1
    go true = omega arith
    go false = omega arith

-- Octets go with a readable frame alone: n for it, none for anything else.
pub octets_of_frames : (s : Share) (b : Burst) → credit_for s b readable_octets ≡ b.n * credit_for s b readable_frames
unfolding credit_for
octets_of_frames s b = go (in_class s readable_frames)
  where
    go : (t : Bool) → cond t b.n 0 ≡ b.n * one t
    go true = omega arith
    go false = omega arith

-- A readable frame has 64 to 1518 octets.
readable_size : (limit : ℕ) (b : Burst) (r : ℕ) → Falls limit b r → r ≡ readable_frames → (shortest ≤ b.n) × (b.n ≤ longest)
readable_size limit b r (short d) z = absurd (omega arith)
readable_size limit b r (runt d n) z = absurd (omega arith)
readable_size limit b r (too_long d n) z = absurd (omega arith)
readable_size limit b r (misaligned d m l f k) z = absurd (omega arith)
readable_size limit b r (faulty d m l f k) z = absurd (omega arith)
readable_size limit b r (good d m l f) z = (m, l)

-- So one burst's octets lie between 64 and 1518 for each of its readable frames.
pub octets_fit : (limit : ℕ) (s : Share) (b : Burst) → s.class ≡ class_of limit b
    → (shortest * credit_for s b readable_frames ≤ credit_for s b readable_octets) × (credit_for s b readable_octets ≤ longest * credit_for s b readable_frames)
unfolding credit_for
octets_fit limit s b k = go s.single (eqb s.class readable_frames) refl
  where
    go : (t u : Bool) → eqb s.class readable_frames ≡ u
        → (shortest * one (t && u) ≤ cond (t && u) b.n 0) × (cond (t && u) b.n 0 ≤ longest * one (t && u))
    go true true e =
        let size = readable_size limit b (class_of limit b) (falls limit b) (sym k ∙ eqb-true s.class readable_frames e) in
        (omega arith, omega arith)
    go true false e = (omega arith, omega arith)
    go false u e = (omega arith, omega arith)

-- TP0's frame heard alone, and one that AUI alone is heard with beside its collision signal
abbrev heard_alone : Met
heard_alone = record { heard = 1; single = Some 0; collision = false; cut = 0; limit = 78 }

abbrev aui_signalled : Met
aui_signalled = record { heard = 256; single = Some 8; collision = true; cut = 0; limit = 78 }

abbrev no_source : List ℕ
no_source = 0 ∷ 0 ∷ 0 ∷ 0 ∷ 0 ∷ 0 ∷ []

abbrev given : Met → ℕ → ℕ
given met i = credits_in (credit_of (due_of nothing_counted met frame no_source) frame i) classes

on_the_ports : (given heard_alone 0 ≡ 1) × (given heard_alone 1 ≡ 0) × (given aui_signalled 8 ≡ 0)
unfolding credits_in credit_of credit_for share_of due_of class_port class_of
on_the_ports = (refl, refl, refl)

-- On the ports: the single heard port gets the class of its burst; where there is a collision, and at every other port, none is credited.
module _ (nine : Nine) (met : Met) (b : Burst) (source : List ℕ) where
  pub single_port : (p r : ℕ) → met.single ≡ Some p → met.collision ≡ false → Falls met.limit b r → OnlyClass (credit_of (due_of nine met b source) b p) r
  unfolding credit_of share_of due_of class_port
  single_port p r s c w = one_class met.limit (share_of (due_of nine met b source) p) b r refl (rw (c, s, eq-eqb p p refl)) w

  pub other_port : (i r : ℕ) → (met.single ≡ Some i → ⊥) → Among r classes → credit_of (due_of nine met b source) b i r ≡ 0
  unfolding credit_of share_of due_of class_port
  other_port i r n a = no_class (share_of (due_of nine met b source) i) b r (go met.collision) a
    where
      go : (t : Bool) → is_at (cond t None met.single) i ≡ false
      go true = refl
      go false = not_at met.single i n

  pub colliding_port : (i r : ℕ) → met.collision ≡ true → Among r classes → credit_of (due_of nine met b source) b i r ≡ 0
  unfolding credit_of share_of due_of class_port
  colliding_port i r c a = no_class (share_of (due_of nine met b source) i) b r (rw c) a

  -- The six together: one at the port that the class goes to, none elsewhere.
  pub six_together : (i : ℕ) → credits_in (credit_of (due_of nine met b source) b i) classes ≡ one (is_at (class_port met) i)
  unfolding credits_in credit_of share_of due_of
  six_together i = share_together met.limit (share_of (due_of nine met b source) i) b refl
