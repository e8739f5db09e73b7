-- Which byte is a Get, and which is none: the commands' table, read from the command to its byte. Assumes nothing.
--   byte_of q      == the byte of the Get q
--   asking k      == the command k is a Get
--   Told c k      == k can be the command of c: a Get by its own byte, a Set by one below 128
--   command_told  == the command of c is such a one
--   get_byte, get_is, set_is, get_exactly == so a Get's byte is its own and is told by its value, and a Set's is told by it too
use Prim.Native.Nat.{ℕ, ◌<◌}
use mathlib.Core.Path.{◌≡◌, refl, sym, ap, subst}
use mathlib.Core.Bool.{Bool, true, false, true≢false}
use native.Mathlib.Omega.{arith}
use borrow.Author.Tests.{lt-leb}
use lib.Dec.{lit<}
use Rattle.management.specs.declared.Setting.{Setting}
use Rattle.management.specs.declared.Query.{Query}
use Rattle.management.specs.declared.Query.TheVariants.{Aui, AuiClearB, AuiClearSl, AuiClearBsl, Partition, Rates, Link, Mjlp, Version}
use Rattle.management.specs.declared.Command.{Command}
use Rattle.management.specs.declared.Command.TheVariants.{Set, Get, Unlisted}
use Rattle.management.specs.Commands.{command_of}
use Rattle.access.specs.Access.{is_listed}
use Rattle.past.specs.Status.{is_get}
use Rattle.alone.proofs.Listed.{GetByte, aui_bsl, aui_sl, aui_b, aui, partition, rates, link, mjlp, version}
use Rattle.alone.proofs.Listed.{Byte, alternate_aui, alternate_tp, disable_aui, enable_aui, disable_tp, enable_tp, test_off, test_on, get, listed_byte}

abbrev pub byte_of : Query → ℕ
byte_of Aui = 0b10001001
byte_of AuiClearB = 0b10001101
byte_of AuiClearSl = 0b10001011
byte_of AuiClearBsl = 0b10001111
byte_of Partition = 0b10000000
byte_of Rates = 0b10100000
byte_of Link = 0b11010000
byte_of Mjlp = 0b11110000
byte_of Version = 0b11111111

abbrev pub asking : Command → Bool
asking (Set s) = false
asking (Get q) = true
asking Unlisted = false

abbrev pub Told : ℕ → Command → Type 0
Told c (Set s) = c < 128
Told c (Get q) = c ≡ byte_of q
Told c Unlisted = Unit

get_told : (c : ℕ) (q : Query) → GetByte c q → c ≡ byte_of q
get_told c q aui_bsl = refl
get_told c q aui_sl = refl
get_told c q aui_b = refl
get_told c q aui = refl
get_told c q partition = refl
get_told c q rates = refl
get_told c q link = refl
get_told c q mjlp = refl
get_told c q version = refl

byte_told : (c : ℕ) (k : Command) → Byte c k → Told c k
byte_told c k alternate_aui = lit< tt
byte_told c k alternate_tp = lit< tt
byte_told c k disable_aui = lit< tt
byte_told c k enable_aui = lit< tt
byte_told c k (disable_tp j l) = omega arith
byte_told c k (enable_tp j l) = omega arith
byte_told c k (test_off j l) = omega arith
byte_told c k (test_on j l) = omega arith
byte_told c k (get n q g) = get_told n q g

pub command_told : (c : ℕ) → Told c (command_of c)
command_told c = go (command_of c) refl
  where
    go : (k : Command) → command_of c ≡ k → Told c k
    go (Set s) e = subst (Told c) e (byte_told c (command_of c) (listed_byte c (ap is_listed e)))
    go (Get q) e = subst (Told c) e (byte_told c (command_of c) (listed_byte c (ap is_listed e)))
    go Unlisted e = tt

pub get_byte : (c : ℕ) (q : Query) → command_of c ≡ Get q → c ≡ byte_of q
get_byte c q e = subst (Told c) e (command_told c)

pub get_is : (c : ℕ) (q : Query) → command_of c ≡ Get q → is_get c ≡ true
get_is c q e = let z : c ≡ byte_of q = get_byte c q e in rw z (each q)
  where
    each : (q : Query) → is_get (byte_of q) ≡ true
    each Aui = refl
    each AuiClearB = refl
    each AuiClearSl = refl
    each AuiClearBsl = refl
    each Partition = refl
    each Rates = refl
    each Link = refl
    each Mjlp = refl
    each Version = refl

pub set_is : (c : ℕ) (s : Setting) → command_of c ≡ Set s → is_get c ≡ false
set_is c s e = lt-leb 128 c (subst (Told c) e (command_told c))

-- of the listed bytes the Gets are those from 128 on
pub get_exactly : (c : ℕ) → is_listed (command_of c) ≡ true → is_get c ≡ asking (command_of c)
get_exactly c h = go (command_of c) refl h
  where
    go : (k : Command) → command_of c ≡ k → is_listed k ≡ true → is_get c ≡ asking k
    go (Set s) e l = set_is c s e
    go (Get q) e l = get_is c q e
    go Unlisted e l = absurd (true≢false (sym l))
