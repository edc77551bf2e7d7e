-- The answer to a line of text, as docs/CALLS.md has it.
use Rattle.std.specs.Prelude.{ℕ, ◌-◌, ◌^◌, min, List, ◌++◌, Bool, true, false, length, take, drop, replicate, Option, Some, None, Result, Ok, Err}
use Rattle.std.proofs.Math.Option as math
use Rattle.format.specs.Bytes.{Answer, refused, given, sum}
use Rattle.format.specs.Row.{Row, row_number}
use Rattle.format.specs.Build.{build, built}
use Rattle.format.specs.Out.{read_out, out_written, every}
use Rattle.format.specs.Read.{Reading, reading, read, read_part}
use Rattle.format.specs.Listing.{digits, spaced, refused_words, sum_words}
use Rattle.text.specs.Text.{text, hexed, listed}
use Rattle.talk.specs.declared.Call.{Call}
use Rattle.talk.specs.declared.Call.TheVariants as call
use Rattle.talk.specs.declared.DataError.{DataError}
use Rattle.talk.specs.declared.DataError.TheVariants.{TooLong, Other}
use Rattle.talk.specs.Words.{word_in, behind_in, call_in}
use Rattle.talk.specs.Numbers.{number_in}
use Rattle.talk.specs.Hex.{pairs, data_in, all_are}
use Rattle.answers.specs.declared.Writes.{Writes}
use Rattle.answers.specs.declared.Writes.TheVariants as writes

-- ---- the lines

-- of a line that cannot be read
abbrev pub what : List ℕ
what = text "what?\n"

-- of a line with too many bytes
abbrev pub too_long : List ℕ
too_long = text "too long\n"

-- of words that stand for no bytes, or for too many
abbrev pub bad : DataError → List ℕ
bad TooLong = too_long
bad Other = what

-- the end of an answer
abbrev pub kept_if : Bool → List ℕ
kept_if true = text " kept\n"
kept_if false = text " changed\n"

-- refused NUMBER PLACE kept
unfoldable pub refusal : ℕ → ℕ → Bool → List ℕ
refusal n p kept = refused_words n p ++ kept_if kept

-- ---- building and reading out: out is the lent buffer

-- each of its bytes before the call: 0xa5
abbrev pub fill : ℕ
fill = 165

-- ok LENGTH HEX kept: n bytes of out, and all behind them as before
unfoldable pub success : ℕ → List ℕ → List ℕ
success n out = text "ok" ++ (spaced n ++ (text " " ++ (hexed (take n out) ++ kept_if (all_are fill (drop n out)))))

-- of the answer of a call, and of the buffer after it: a refusal leaves all of it as before
unfoldable pub told : Answer ℕ → List ℕ → List ℕ
told (refused n p) out = refusal n p (all_are fill out)
told (given n) out = success n out

-- the table of a recipe, or the recipe of a table
unfoldable pub carried_out : Writes → List ℕ → List ℕ → List ℕ
carried_out writes.Build r out = told (build r (length out)) (built r out)
carried_out writes.Out b out = told (read_out b (length out)) (out_written b out)

-- the buffer: room bytes, at most most
abbrev pub lent : ℕ → ℕ → List ℕ
lent most room = replicate (min room most) fill

-- ---- reading

-- ROW and VALUES, '-' both of a record that no known row fits
unfoldable pub content : math.Option Row → List ℕ → List ℕ
content math.none vs = text "- -"
content (math.some r) vs = digits 20 (row_number r) ++ (text " " ++ listed vs)

-- the same and PART, the end of the line
unfoldable pub ending : math.Option Row → List ℕ → List ℕ → List ℕ
ending row vs bs = text " " ++ (content row vs ++ (text " " ++ (hexed bs ++ text "\n")))

-- record COUNT TYPE PLACE LENGTH ROW VALUES PART
unfoldable pub found : Reading → List ℕ → List ℕ
found (reading count type place len row vs) bs = text "record" ++ (spaced count ++ (spaced type ++ (spaced place ++ (spaced len ++ ending row vs bs))))

-- the record, or the refusal: nothing is lent, so all is kept
unfoldable pub seen : Answer Reading → List ℕ → List ℕ
seen (refused n p) bs = refusal n p true
seen (given r) bs = found r bs

-- ---- adding up

-- sum N
unfoldable pub total : List ℕ → List ℕ
total bs = sum_words (sum bs) ++ text "\n"

-- ---- the request

-- f of a number; where a word is none, what that is answered
abbrev pub of_number : Option ℕ → (ℕ → List ℕ) → List ℕ
of_number (Some v) f = f v
of_number None f = what

-- f of the bytes that a word w stands for; where it stands for too many or for none, that
abbrev pub of_bytes : Result ℕ DataError → List ℕ → (List ℕ → List ℕ) → List ℕ
of_bytes (Ok k) w f = f (pairs w)
of_bytes (Err e) w f = bad e

-- the words behind 'build' and 'out', ROOM HEX; taken and lends: the most bytes that are taken and lent
unfoldable pub writing : ℕ → ℕ → Writes → List ℕ → List ℕ
writing taken lends w ws =
    of_number (number_in (2 ^ 64 - 1) (word_in ws)) (λ n. of_bytes (data_in taken (behind_in ws)) (behind_in ws) (λ bs. carried_out w bs (lent lends n)))

-- the words behind 'read', MASK N HEX
unfoldable pub asking : ℕ → List ℕ → List ℕ
asking taken ws =
    let rest : List ℕ = behind_in ws in
    of_number (number_in every (word_in ws)) (λ mask. of_number (number_in (2 ^ 64 - 1) (word_in rest)) (λ n. of_bytes (data_in taken (behind_in rest)) (behind_in rest) (λ b. seen (read b mask n) (read_part b mask n))))

-- the word behind 'sum', HEX
unfoldable pub adding : ℕ → List ℕ → List ℕ
adding taken ws = of_bytes (data_in taken ws) ws total

-- by the call that the first word names
abbrev pub named : ℕ → ℕ → Option Call → List ℕ → List ℕ
named taken lends (Some call.Build) ws = writing taken lends writes.Build ws
named taken lends (Some call.Out) ws = writing taken lends writes.Out ws
named taken lends (Some call.Read) ws = asking taken ws
named taken lends (Some call.Sum) ws = adding taken ws
named taken lends None ws = what

-- the answer to a line
unfoldable pub answer_to : ℕ → ℕ → List ℕ → List ℕ
answer_to taken lends line = named taken lends (call_in (word_in line)) (behind_in line)
