use Rattle.std.proofs.Common.{◌≡◌, ℕ, ◌+◌, Bool, true, false, cond, ◌&&◌, eqb, ltb, refl, ap, lt-ltb, le-ltb, eq-eqb, ne_eqb}
use lib.Bits.{bit_and, bit_or}
use Rattle.burst.specs.Marks.{jabber_above}
use Rattle.attributes.specs.declared.Flat.{Flat}
use Rattle.attributes.specs.Nine.{readable_frames, readable_octets, collisions, late_events, very_long_events, rate_mismatches}
use Rattle.attributes.specs.Credits.{late_above, mismatch_above}
use Rattle.attributes.specs.Flat.{Counting}
use Rattle.attributes.specs.Counts.{counted_for}
use Rattle.attributes.proofs.CountLaws.{class_low, at_ports, given, withheld, still, Masks, tallied, then, counting_as}
use Rattle.attributes.proofs.Flat.count.Goals.{then-due-eq-READABLE_FRAMES, else-due-eq-READABLE_FRAMES}
use Rattle.attributes.proofs.Flat.count.Goals.{then-due+then-burst-gt-LATE_ABOVE, then-due+else-burst-gt-LATE_ABOVE, else-due}
use Rattle.attributes.proofs.Flat.count.Goals.{then-burst-gt-JABBER_ABOVE, else-burst-gt-JABBER_ABOVE}
use Rattle.attributes.proofs.Flat.count.Goals.{then-burst+then-burst-gt-MISMATCH_ABOVE, else-burst, else-burst-via-then-burst+else-burst-gt-MISMATCH_ABOVE, else-burst-via-else-burst}
use Rattle.attributes.proofs.Flat.count.Goals as goal

pub bump-requires : goal.bump-requires
bump-requires c = class_low c.args.due.class c.requires

-- late, where it is no collision
late_withheld : (t u : Bool) (register mask n : ℕ) (flat last : Flat) → u ≡ false → last ≡ flat → Counting (at_ports register (cond t (cond u mask 0) 0) n) flat last
late_withheld false u register mask n flat last e f = rw f (still register n flat)
late_withheld true u register mask n flat last e f = withheld u register mask n flat last e f

pub returns : goal.returns
returns c =
    let d = c.args.due in
    let b = c.args.burst in
    let own : ℕ = bit_and c.own.result (bit_or d.heard d.cut) in
    let framed : ℕ = cond (eqb d.class readable_frames) own 0 in
    let crowd : ℕ = cond d.collision d.heard 0 in
    let late : ℕ = cond (ltb late_above b.c) crowd 0 in
    let long : ℕ = cond (ltb jabber_above b.d) d.heard 0 in
    let mistimed : ℕ = cond (b.rate_error && ltb mismatch_above b.d) own 0 in
    let frame : Counting (at_ports readable_octets framed b.n) c.bump.new.self c.if-due-eq-READABLE_FRAMES.self =
    elim c.if-due-eq-READABLE_FRAMES.branch [
      | then-due-eq-READABLE_FRAMES w ↦ given _ _ own _ _ _ _ (eq-eqb _ _ w.if-due-eq-READABLE_FRAMES.true) w.self-is w.bump-then-due-eq-READABLE_FRAMES.ensures
      | else-due-eq-READABLE_FRAMES w ↦ withheld _ _ own _ _ _ (ne_eqb _ _ w.if-due-eq-READABLE_FRAMES.false) w.self-is
    ]
    in
    let crowded : Counting (λ r i. at_ports d.class own 1 r i + at_ports readable_octets framed b.n r i + at_ports collisions crowd 1 r i + at_ports late_events late 1 r i) c.args.self.now c.if-due.self =
    elim c.if-due.branch [
      | then-due+then-burst-gt-LATE_ABOVE w ↦
          then (then (then c.bump.ensures frame) (given _ _ d.heard _ _ _ _ w.if-due.true refl w.bump-then-due.ensures))
          (given _ _ crowd _ _ _ _ (lt-ltb _ _ w.if-burst-gt-LATE_ABOVE.true) w.self-is (given _ _ d.heard _ _ _ _ w.if-due.true refl w.bump-then-burst-gt-LATE_ABOVE.ensures))
      | then-due+else-burst-gt-LATE_ABOVE w ↦
          then (then (then c.bump.ensures frame) (given _ _ d.heard _ _ _ _ w.if-due.true refl w.bump-then-due.ensures))
          (withheld _ _ crowd _ _ _ (le-ltb _ _ w.if-burst-gt-LATE_ABOVE.false) w.self-is)
      | else-due w ↦
          then (then (then c.bump.ensures frame) (withheld _ _ d.heard _ _ _ w.if-due.false refl)) (late_withheld _ _ _ d.heard _ _ _ w.if-due.false w.self-is)
    ]
    in
    let jabber : Counting (at_ports very_long_events long 1) c.if-due.self c.if-burst-gt-JABBER_ABOVE.self =
    elim c.if-burst-gt-JABBER_ABOVE.branch [
      | then-burst-gt-JABBER_ABOVE w ↦ given _ _ d.heard _ _ _ _ (lt-ltb _ _ w.if-burst-gt-JABBER_ABOVE.true) w.self-is w.bump-then-burst-gt-JABBER_ABOVE.ensures
      | else-burst-gt-JABBER_ABOVE w ↦ withheld _ _ d.heard _ _ _ (le-ltb _ _ w.if-burst-gt-JABBER_ABOVE.false) w.self-is
    ]
    in
    let rate : Counting (at_ports rate_mismatches mistimed 1) c.if-burst-gt-JABBER_ABOVE.self c.if-burst.self =
    elim c.if-burst.branch [
      | then-burst+then-burst-gt-MISMATCH_ABOVE w ↦
          given _ _ own _ _ _ _ (rw (w.if-burst.true, lt-ltb _ _ w.if-burst-gt-MISMATCH_ABOVE.true)) w.self-is w.bump-then-burst-gt-MISMATCH_ABOVE.ensures
      | else-burst w ↦
          withheld _ _ own _ _ _
          (elim w.else-burst.branch [
            | else-burst-via-then-burst+else-burst-gt-MISMATCH_ABOVE v ↦ rw (v.if-burst.true, le-ltb _ _ v.if-burst-gt-MISMATCH_ABOVE.false)
            | else-burst-via-else-burst v ↦ rw v.if-burst.false
          ])
          w.self-is
    ]
    in
    let m : Masks d b own framed crowd late long mistimed _ =
    record {
      own_is = ap (λ (s : ℕ). bit_and s (bit_or d.heard d.cut)) c.own.ensures;
      framed_is = refl;
      crowd_is = refl;
      late_is = refl;
      long_is = refl;
      mistimed_is = refl;
      changed_is = refl;
    } in
    counting_as (counted_for d b) (λ r i h k. tallied _ _ _ _ _ _ _ _ _ m i k c.requires r h)
    (then (then (then (then crowded jabber) rate) c.bump-2.ensures) c.bump-3.ensures)
