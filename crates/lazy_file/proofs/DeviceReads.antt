-- What reads of a device give, one after the other.
use Rattle.std.proofs.Common.{◌≡◌, ℕ, ◌+◌, ◌-◌, ◌<◌, ◌≤◌, List, ◌++◌, drop, length, take, arith, sym, ap, ◌∙◌, take-add, drop-drop, length-append, length-take-le, length-drop}
use Rattle.std.specs.Prelude.{Option, Some, None, Ok}
use Rattle.std.proofs.Math.Seq.{take-append-add}
use Rattle.std.proofs.lemmas.List.{take-append-le}
use borrow.Rule.Slice.PartMut.{put_mid, post_of}
use Rattle.lazy_file.specs.DeviceTexts.{AreBytesAt, DeviceReading, ReadsAt}

-- bytes that stand there, and more that stand behind them
pub bytes_then : (text : Option (List ℕ)) (off : ℕ) (xs ys : List ℕ) → AreBytesAt text off xs → AreBytesAt text (off + length xs) ys → AreBytesAt text off (xs ++ ys)
bytes_then None off xs ys h k = tt
bytes_then (Some t) off xs ys h k =
    let whole : take (length xs + length ys) (drop off t) ≡ take (length xs) (drop off t) ++ take (length ys) (drop (length xs) (drop off t)) = take-add (length xs) (length ys) (drop off t) in
    let next : drop (length xs) (drop off t) ≡ drop (off + length xs) t = drop-drop (length xs) off t in
    rw (length-append xs ys, whole, next, ← h, ← k)

-- the first done bytes of a buffer, which was old, are filled
pub record Filled (start now : DeviceReading) (off done : ℕ) (old buffer : List ℕ) : Type 0 where
  pub same : now.stated ≡ start.stated
  pub unfailed : now.failures ≡ start.failures
  pub calls : now.calls ≤ start.calls + done
  pub len : length buffer ≡ length old
  pub inside : done ≤ length buffer
  pub bytes : AreBytesAt start.stated.text off (take done buffer)

front_of : (done count : ℕ) (buffer part : List ℕ) → done ≤ length buffer → count ≤ length part
    → take (done + count) (put_mid done (length buffer - done) buffer part) ≡ take done buffer ++ take count part
front_of done count buffer part h k =
    let front : length (take done buffer) ≡ done = length-take-le done buffer h in
    let rest = post_of done (length buffer - done) buffer in
    let cut : take (length (take done buffer) + count) (take done buffer ++ (part ++ rest)) ≡ take done buffer ++ take count (part ++ rest) = take-append-add (take done buffer) (part ++ rest) count in
    ap (λ n. take (n + count) (put_mid done (length buffer - done) buffer part)) (sym front) ∙ cut ∙ ap (λ xs. take done buffer ++ xs) (take-append-le count part rest k)

length_of : (done : ℕ) (buffer part : List ℕ) → done ≤ length buffer → length part ≡ length buffer - done
    → length (put_mid done (length buffer - done) buffer part) ≡ length buffer
length_of done buffer part h same =
    let rest = post_of done (length buffer - done) buffer in
    omega (arith, h, same, length-append (take done buffer) (part ++ rest), length-append part rest, length-take-le done buffer h, length-drop (length buffer - done) (drop done buffer), length-drop done buffer)

-- a read that succeeds raises nothing
none_failed : {E : Type 0} (now next : DeviceReading) (off : ℕ) (rest part : List ℕ) (count : ℕ) → ReadsAt {E = E} now next off rest part (Ok count) → next.failures ≡ now.failures
none_failed now next off rest part count read =
    let more : now.failures < next.failures → ⊥ = λ lt. (let failed = read.failed.1 lt in absurd cc) in
    omega (arith, read.later, more)

-- one more read, into what was not filled
pub filled_more : {E : Type 0} (start now next : DeviceReading) (off done count : ℕ) (old buffer rest part : List ℕ)
    → Filled start now off done old buffer → 1 ≤ count → length part ≡ length buffer - done → length rest ≡ length buffer - done
    → ReadsAt {E = E} now next (off + done) rest part (Ok count)
    → Filled start next off (done + count) old (put_mid done (length buffer - done) buffer part)
filled_more start now next off done count old buffer rest part f some same was read =
    let few : count ≤ length part = omega (arith, same, was, read.count) in
    let front : length (take done buffer) ≡ done = length-take-le done buffer f.inside in
    let here : AreBytesAt start.stated.text (off + length (take done buffer)) (take count part) = rw (front, ← f.same) read.bytes in
    record {
      same = read.same ∙ f.same;
      unfailed = none_failed now next (off + done) rest part count read ∙ f.unfailed;
      calls = omega (arith, read.calls, f.calls, some);
      len = length_of done buffer part f.inside same ∙ f.len;
      inside = omega (arith, length_of done buffer part f.inside same, few, same, f.inside);
      bytes = rw (front_of done count buffer part f.inside few) (bytes_then start.stated.text off (take done buffer) (take count part) f.bytes here);
    }
