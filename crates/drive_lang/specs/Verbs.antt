-- The first words of lines.
use Rattle.std.specs.Prelude.{ℕ, Option, None, Some, List, bytes_eq, codes, if◌then◌else◌}
use Rattle.drive_lang.specs.declared.verb.Verb.{Verb}
use Rattle.drive_lang.specs.declared.verb.Verb.TheVariants.{Poke, Peek, Expect, Set, See, Wait, Reset}

abbrev pub verb_of : List ℕ → Option Verb
verb_of word =
    if bytes_eq word (codes "poke") then Some Poke else
    (if bytes_eq word (codes "peek") then Some Peek else
    (if bytes_eq word (codes "expect") then Some Expect else
    (if bytes_eq word (codes "set") then Some Set else
    (if bytes_eq word (codes "see") then Some See else
    (if bytes_eq word (codes "wait") then Some Wait else
    (if bytes_eq word (codes "reset") then Some Reset else None))))))
