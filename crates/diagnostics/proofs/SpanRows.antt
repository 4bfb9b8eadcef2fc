-- The definitions on small texts.
use Rattle.std.proofs.Common.{◌≡◌, ℕ, List, false, refl}
use Rattle.std.specs.Prelude.{codes}
use Rattle.diagnostics.specs.Diagnostics.{is_plain, IsPlain, IsDiagnosticBody, alone}

-- words and line feeds are plain
plain_words : IsPlain (codes "2:1: found \"}\"\n")
plain_words = refl

-- what moves a terminal's cursor isn't plain, nor is a byte above ASCII
escape : is_plain 27 ≡ false
escape = refl

carriage_return : is_plain 13 ≡ false
carriage_return = refl

above_ascii : is_plain 195 ≡ false
above_ascii = refl

-- a sentence without a location
said_alone : (input : List ℕ) → IsDiagnosticBody input 100 (codes "the input has a fault\n")
said_alone input = alone (codes "the input has a fault") refl refl
