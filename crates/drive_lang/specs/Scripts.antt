-- Which steps a script means for a block, or its first error (this project's format).
use Rattle.std.specs.Prelude.{ℕ, ◌+◌, ◌-◌, Result, Ok, Err, List, [], ◌∷◌, ◌++◌, drop, length, replicate}
use Rattle.rb_model.specs.declared.block.Block.{Block}
use Rattle.rb_model.specs.Ports.{input_pins}
use Rattle.drive_lang.specs.Lines.{lines_of, words_of}
use Rattle.drive_lang.specs.declared.order.Order.{Order}
use Rattle.drive_lang.specs.declared.order.Line.{Line}
use Rattle.drive_lang.specs.Steps.{Step, played, vectors_of}
use Rattle.drive_lang.specs.Orders.{Judged, order_of}
use Rattle.drive_lang.specs.declared.error.DriveError.{DriveError}

-- the lines that ask for something, or the first error
abbrev pub Lines : Type 0
Lines = Result (List Line) DriveError

abbrev pub in_front : Line → Lines → Lines
in_front line (Ok lines) = Ok (line ∷ lines)
in_front line (Err e) = Err e

abbrev pub behind : List Line → Lines → Lines
behind lines (Ok more) = Ok (lines ++ more)
behind lines (Err e) = Err e

-- the line of an order in front of what its order leaves
abbrev pub ordered : (number : ℕ) → Judged → (Order → Lines) → Lines
ordered number (Err e) rest = Err e
ordered number (Ok order) rest = in_front (record { number = number; order = order }) (rest order)

-- a line without words means nothing
abbrev pub unless_blank : List (List ℕ) → (blank other : Lines) → Lines
unless_blank [] blank other = blank
unless_blank (w ∷ ws) blank other = other

-- the lines of some texts, of which the first has this number, where there is room for so many vectors
abbrev pub lines_from : Block → (number room : ℕ) → (texts : List (List ℕ)) → Lines
lines_from b number room [] = Ok []
lines_from b number room (text ∷ texts) =
    unless_blank (words_of text) (lines_from b (number + 1) room texts)
    (ordered number (order_of b number room (words_of text)) (λ order. lines_from b (number + 1) (room - vectors_of order) texts))

-- the most vectors that a script may have
abbrev pub most_vectors : ℕ
most_vectors = 1000000

-- the inputs behind those of the bus are 0 at first
abbrev pub at_first : Block → List ℕ
at_first b = replicate (length (drop 6 (input_pins b))) 0

abbrev pub steps_in : Block → Lines → Result (List Step) DriveError
steps_in b (Ok lines) = Ok (played lines (at_first b))
steps_in b (Err e) = Err e

abbrev pub script_of : Block → (bytes : List ℕ) → Result (List Step) DriveError
script_of b bytes = steps_in b (lines_from b 1 most_vectors (lines_of bytes))
