-- The octet check: a computed table of its edges, and what true readings of a counter make of it. Assumes nothing.
--   the_check         == the table
--   difference_of_sum == two readings differ by what was added between them, modulo 2^32
--   check_passed      == octets of 64 to 1518 for each of at most 2,829,359 frames are said yes to
use Rattle.std.proofs.Common.{◌≡◌, ℕ, ◌+◌, ◌*◌, ◌%◌, ◌^◌, ◌<◌, ◌≤◌, true, false, Ok, Err, refl, arith, le-ltb, le-leb}
use Rattle.attributes.specs.Credits.{shortest, longest}
use Rattle.attributes.specs.Octets.{difference_of, most_frames, too_many, turned_away_with, check_of}

the_check : (check_of 0 0 ≡ Ok true)
    × (check_of 0 1 ≡ Ok false)
    × (check_of 2 127 ≡ Ok false)
    × (check_of 2 128 ≡ Ok true)
    × (check_of 2 3036 ≡ Ok true)
    × (check_of 2 3037 ≡ Ok false)
    × (check_of 2829359 181078975 ≡ Ok false)
    × (check_of 2829359 181078976 ≡ Ok true)
    × (check_of 2829359 4294966962 ≡ Ok true)
    × (check_of 2829359 4294966963 ≡ Ok false)
    × (check_of 2829360 181079040 ≡ Err too_many)
    × (turned_away_with too_many ≡ 10)
unfolding check_of
the_check = (refl, refl, refl, refl, refl, refl, refl, refl, refl, refl, refl, refl)

-- Readings 4,294,967,295 then 2 differ by 3.
two_readings : (difference_of 2 4294967295 ≡ 3) × (difference_of 5 5 ≡ 0)
two_readings = (refl, refl)

pub difference_of_sum : (later earlier added : ℕ) → earlier < 2 ^ 32 → later ≡ (earlier + added) % 2 ^ 32 → difference_of later earlier ≡ added % 2 ^ 32
difference_of_sum later earlier added l e = omega arith

pub check_passed : (frames octets : ℕ) → frames ≤ most_frames → shortest * frames ≤ octets → octets ≤ longest * frames → check_of frames octets ≡ Ok true
unfolding check_of
check_passed frames octets l a b = rw (le-ltb most_frames frames l, le-leb (shortest * frames) octets a, le-leb octets (longest * frames) b)
