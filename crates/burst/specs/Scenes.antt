-- Document 01, 'Burst', 'Partition' and the last sentences of 'Commands', case by case: a burst, the ports sent to and listened to, and what follows.
-- proofs/Scenes.antt computes every row.
--   flagged         == a burst: mask, rate error flag, AUI's collision signal, loopback missing and SQE Test flags, duration, length of the collision
--   activity_of      == one with neither of the last two flags
--   heard_with t l activity == what is heard of a burst, with the ports t sent to and the ports l listened to
--   served          == the ports that are sent to in every scene: TP0, TP1, TP2 and AUI
--   Scene           == a row: what is listened to, the burst, the word, the ports that something goes out to, the ports that collide, the single heard port,
--                      whether it is a collision and whether two or more are heard; then the ports that the burst is clean for, those for which it lasts as
--                      well, and those that it connects again by the standard and by the alternate algorithm
--   found           == what the definitions make of a row
--   scenes          == the rows
--   collided_with    == the ports that collide, where these are sent to and listened to
--   Report          == a row: what is sent to, the burst, and the status bits that it sets: B, S, L, the TP ports' bits, M
--   reported        == what the definitions make of one
--   reports         == the rows
-- Assumes nothing.
use Rattle.std.specs.Prelude.{ℕ, Bool, true, false, Option, Some, None, List, [], ◌∷◌}
use Rattle.std.specs.Int.Bits.{bit_and}
use Rattle.ports.specs.Sets.{aui, set_of}
use Rattle.management.specs.declared.Status.{Status}
use Rattle.burst.specs.declared.Activity.{Activity}
use Rattle.burst.specs.declared.Bus.{Bus}
use Rattle.burst.specs.declared.Word.{Word}
use Rattle.burst.specs.declared.Word.TheVariants.{Nil, Rep, Jam}
use Rattle.burst.specs.declared.Hearing.{Hearing}
use Rattle.burst.specs.declared.Effect.{Effect}
use Rattle.burst.specs.Burst.{in_e, heard_of, effect_of}
use Rattle.burst.specs.Clean.{clean_at, lasting_at, reconnecting_at}
use Rattle.burst.specs.Marks.{marks_of}

abbrev pub flagged : ℕ → Bool → Bool → Bool → Bool → ℕ → ℕ → Activity
flagged mask rate signal loopback sqe d x =
    record { mask = mask; rate_error = rate; collision_signal = signal; loopback_missing = loopback; sqe_test = sqe; d = d; x = x }

abbrev pub activity_of : ℕ → Bool → Bool → ℕ → ℕ → Activity
activity_of mask rate signal d x = flagged mask rate signal false false d x

abbrev pub heard_with : ℕ → ℕ → Activity → Hearing
heard_with t l activity =
    let e : ℕ = set_of (in_e activity) in
    record { e = e; t = t; h = bit_and e l; heard = heard_of (bit_and e l) }

pub record Followed : Type 0 where
  pub effect : Effect
  pub clean : ℕ
  pub lasting : ℕ
  pub standard : ℕ
  pub alternate : ℕ

pub record Scene : Type 0 where
  pub listened : ℕ
  pub activity : Activity
  pub wanted : Followed

abbrev pub scene : ℕ → Activity → Word → ℕ → ℕ → Option ℕ → Bool → Bool → ℕ → ℕ → ℕ → ℕ → Scene
scene listened activity word out colliding single collision transmitted clean lasting standard alternate = record {
  listened = listened;
  activity = activity;
  wanted = record {
    effect = record { word = word; out = out; collided = colliding; single = single; collision = collision; transmit_collision = transmitted };
    clean = clean;
    lasting = lasting;
    standard = standard;
    alternate = alternate;
  };
}

abbrev pub served : ℕ
served = 0b100000111

abbrev pub found : Scene → Followed
found row =
    let activity : Activity = row.activity in
    let hearing : Hearing = heard_with served row.listened activity in
    let effect : Effect = effect_of Bus.Nothing hearing activity in
    let lasting : ℕ = set_of (lasting_at hearing effect activity) in
    record {
      effect = effect;
      clean = set_of (clean_at hearing effect);
      lasting = lasting;
      standard = set_of (reconnecting_at effect lasting false);
      alternate = set_of (reconnecting_at effect lasting true);
    }

-- In order: TP0 heard alone, for 2000, 512 and 513 bit times; TP0 and TP1; the same with TP3, which is not sent to; a rate error; AUI with its
-- collision signal. Then TP0 is not listened to: active by itself, for 2000, 512 and 513 bit times, and beside TP2. At last AUI is not: its signal beside
-- TP2, and alone
abbrev pub scenes : List Scene
scenes =
    scene 0b100000111 (activity_of 0b000000001 false false 2000 0) Rep 0b100000110 0b000000000 (Some 0) false false 0b100000111 0b100000111 0b100000111 0b100000110
    ∷ scene 0b100000111 (activity_of 0b000000001 false false 512 0) Rep 0b100000110 0b000000000 (Some 0) false false 0b100000111 0b000000000 0b000000000 0b000000000
    ∷ scene 0b100000111 (activity_of 0b000000001 false false 513 0) Rep 0b100000110 0b000000000 (Some 0) false false 0b100000111 0b100000111 0b100000111 0b100000110
    ∷ scene 0b100000111 (activity_of 0b000000011 false false 2000 0) Jam 0b100000111 0b000000011 None true true 0b000000000 0b000000000 0b000000000 0b000000000
    ∷ scene 0b100000111 (activity_of 0b000001011 false false 2000 0) Jam 0b100000111 0b000000011 None true true 0b000000000 0b000000000 0b000000000 0b000000000
    ∷ scene 0b100000111 (activity_of 0b000000001 true false 2000 0) Jam 0b100000110 0b000000000 (Some 0) false false 0b000000000 0b000000000 0b000000000 0b000000000
    ∷ scene 0b100000111 (activity_of 0b100000000 false true 2000 0) Jam 0b000000111 0b100000000 (Some aui) true false 0b000000000 0b000000000 0b000000000 0b000000000
    ∷ scene 0b100000110 (activity_of 0b000000001 false false 2000 0) Nil 0b000000000 0b000000000 None false false 0b000000001 0b000000001 0b000000001 0b000000000
    ∷ scene 0b100000110 (activity_of 0b000000001 false false 512 0) Nil 0b000000000 0b000000000 None false false 0b000000001 0b000000000 0b000000000 0b000000000
    ∷ scene 0b100000110 (activity_of 0b000000001 false false 513 0) Nil 0b000000000 0b000000000 None false false 0b000000001 0b000000001 0b000000001 0b000000000
    ∷ scene 0b100000110 (activity_of 0b000000101 false false 2000 0) Rep 0b100000011 0b000000001 (Some 2) false false 0b100000110 0b100000110 0b100000110 0b100000010
    ∷ scene 0b000000111 (activity_of 0b000000100 false true 2000 0) Rep 0b100000011 0b100000000 (Some 2) false false 0b000000111 0b000000111 0b000000111 0b000000011
    ∷ scene 0b000000111 (activity_of 0b000000000 false true 2000 0) Nil 0b000000000 0b100000000 None false false 0b000000000 0b000000000 0b000000000 0b000000000
    ∷ []

abbrev pub collided_with : ℕ → Activity → ℕ
collided_with sent activity = (effect_of Bus.Nothing (heard_with sent sent activity) activity).collided

pub record Report : Type 0 where
  pub sent : ℕ
  pub activity : Activity
  pub wanted : Status

abbrev pub report : ℕ → Activity → Bool → Bool → Bool → ℕ → Bool → Report
report sent activity b s l rates m = record {
  sent = sent;
  activity = activity;
  wanted = record { rate = b; sqe = s; loopback = l; rates = rates; mjlp = m };
}

-- what is sent to is listened to as well
abbrev pub reported : Report → Status
reported row =
    let activity : Activity = row.activity in
    marks_of (effect_of Bus.Nothing (heard_with row.sent row.sent activity) activity) activity

-- In order: nothing to report; 65,536 and 65,537 bit times; as long with nobody to send to, and with nobody heard; a rate error of AUI alone, of TP3
-- alone, of both, and of TP3 while nobody listens to it; SQE Test; loopback missing while AUI is sent to, while it is heard alone itself, and while it is
-- not sent to
abbrev pub reports : List Report
reports =
    report 0b100001111 (flagged 0b000000001 false false false false 2000 0) false false false 0b00000000 false
    ∷ report 0b100001111 (flagged 0b000000001 false false false false 65536 0) false false false 0b00000000 false
    ∷ report 0b100001111 (flagged 0b000000001 false false false false 65537 0) false false false 0b00000000 true
    ∷ report 0b000000001 (flagged 0b000000001 false false false false 65537 0) false false false 0b00000000 false
    ∷ report 0b100001111 (flagged 0b000010000 false false false false 65537 0) false false false 0b00000000 false
    ∷ report 0b100001111 (flagged 0b100000000 true false false false 2000 0) true false false 0b00000000 false
    ∷ report 0b100001111 (flagged 0b000001000 true false false false 2000 0) false false false 0b00001000 false
    ∷ report 0b100001111 (flagged 0b100001000 true false false false 2000 0) false false false 0b00000000 false
    ∷ report 0b100000111 (flagged 0b000001000 true false false false 2000 0) false false false 0b00000000 false
    ∷ report 0b100001111 (flagged 0b000000001 false false false true 2000 0) false true false 0b00000000 false
    ∷ report 0b100001111 (flagged 0b000000001 false false true false 2000 0) false false true 0b00000000 false
    ∷ report 0b100001111 (flagged 0b100000000 false false true false 2000 0) false false false 0b00000000 false
    ∷ report 0b000001111 (flagged 0b000000001 false false true false 2000 0) false false false 0b00000000 false
    ∷ []
