-- Laws of runs, of any model, and of what power-up can be given. Assumes nothing.
--   ends p hs          == where a history leads from p
--   run_on, history_on == a run goes on where another ended
--   found, found_after  == what f finds after the records rs, or after rs and each of some endings: f of the point reached and of the history
--   found_once, found_after_once == the same, with the records rs met once for all that f asks
--   any_given, all_given == one number for every counter can be given, with any limit of short events, and with the usual one
use Prim.Native.Nat.{ℕ, ◌^◌, ◌<◌}
use mathlib.Core.Path.{◌≡◌, refl, sym, ap, ap₂, ◌∙◌}
use mathlib.Core.List.{List, [], ◌∷◌, ◌++◌, map}
use Rattle.attributes.specs.Credits.{short_below}
use Rattle.attributes.proofs.NineLaws.{proper_all}
use Rattle.himib.specs.Runs.{Point, Happening, Model, history_of, run_of, Given, all_with, all_at}

abbrev pub ends : Point → List Happening → Point
ends p [] = p
ends p (h ∷ hs) = ends h.after hs

module _ (m : Model) where
  pub ends_run : (p : Point) (rs : List (List ℕ)) → ends p (history_of m p rs) ≡ run_of m p rs
  unfolding history_of run_of
  ends_run p [] = refl
  ends_run p (r ∷ rs) = ends_run (m p r).after rs

  pub run_on : (p : Point) (rs qs : List (List ℕ)) → run_of m (run_of m p rs) qs ≡ run_of m p (rs ++ qs)
  unfolding run_of
  run_on p [] qs = refl
  run_on p (r ∷ rs) qs = run_on (m p r).after rs qs

  pub history_on : (p : Point) (rs qs : List (List ℕ)) → history_of m p rs ++ history_of m (run_of m p rs) qs ≡ history_of m p (rs ++ qs)
  unfolding history_of run_of
  history_on p [] qs = refl
  history_on p (r ∷ rs) qs = ap (λ (hs : List Happening). m p r ∷ hs) (history_on (m p r).after rs qs)

  module _ {A : Type 0} (f : Point → List Happening → A) where
    abbrev pub found : Point → List (List ℕ) → A
    found p rs = f (run_of m p rs) (history_of m p rs)

    abbrev pub found_after : Point → List (List ℕ) → List (List (List ℕ)) → List A
    found_after p rs endings = map (λ t. found p (rs ++ t)) endings

    -- of the history alone, which tells where it leads
    abbrev pub once : Point → List (List ℕ) → A
    once p rs = let hs : List Happening = history_of m p rs in f (ends p hs) hs

    -- of one ending, with the happenings hs before it
    abbrev pub ending_at : List Happening → Point → List (List ℕ) → A
    ending_at hs p t = let gs : List Happening = history_of m p t in f (ends p gs) (hs ++ gs)

    abbrev pub after_once : Point → List (List ℕ) → List (List (List ℕ)) → List A
    after_once p rs endings = let hs : List Happening = history_of m p rs in let q : Point = ends p hs in map (ending_at hs q) endings

    pub found_once : (p : Point) (rs : List (List ℕ)) {a : A} → a ≡ once p rs → found p rs ≡ a
    found_once p rs e = ap (λ (q : Point). f q (history_of m p rs)) (sym (ends_run p rs)) ∙ sym e

    ending_found : (p : Point) (rs t : List (List ℕ)) → found p (rs ++ t) ≡ ending_at (history_of m p rs) (ends p (history_of m p rs)) t
    ending_found p rs t = rw (ends_run p rs, ends_run (run_of m p rs) t, run_on p rs t, history_on p rs t)

    endings_found : (p : Point) (rs : List (List ℕ)) (endings : List (List (List ℕ))) → found_after p rs endings ≡ after_once p rs endings
    endings_found p rs [] = refl
    endings_found p rs (t ∷ ts) = ap₂ (λ (a : A) (l : List A). a ∷ l) (ending_found p rs t) (endings_found p rs ts)

    pub found_after_once : (p : Point) (rs : List (List ℕ)) (endings : List (List (List ℕ))) {l : List A} → l ≡ after_once p rs endings
        → found_after p rs endings ≡ l
    found_after_once p rs endings e = endings_found p rs endings ∙ sym e

-- any number below 2^32 can be given for every counter
pub any_given : (limit v : ℕ) → v < 2 ^ 32 → Given (all_with limit v)
any_given limit v l = record { attributes = proper_all v l; collisions-low = l; octets-low = l }

pub all_given : (v : ℕ) → v < 2 ^ 32 → Given (all_at v)
all_given v l = any_given short_below v l
