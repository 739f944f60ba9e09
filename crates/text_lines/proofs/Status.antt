-- The last row's words, as they are written.
use Rattle.std.proofs.Common.{◌≡◌, ℕ, List, ◌++◌, Option, Some, None, append_assoc, ap, ◌∙◌, codes, decimal, append-nil}
use Rattle.text_lines.specs.Screen.{message_of, status_of}

-- however they are joined
joined : (a b c d e f g : List ℕ) → a ++ (b ++ (c ++ (d ++ (e ++ (f ++ g))))) ≡ a ++ b ++ c ++ d ++ e ++ f ++ g
joined a b c d e f g = simp append_assoc

-- with no message
pub status_plain : (k p n : ℕ) (message : Option (List ℕ)) → message ≡ None
    → codes "rev " ++ (decimal k ++ (codes " byte " ++ (decimal p ++ (codes " of " ++ decimal n)))) ≡ status_of k p n message
status_plain k p n message none =
    rw none (ap (λ (xs : List ℕ). codes "rev " ++ (decimal k ++ (codes " byte " ++ (decimal p ++ (codes " of " ++ xs))))) (rw (append-nil (decimal n)))
    ∙ joined (codes "rev ") (decimal k) (codes " byte ") (decimal p) (codes " of ") (decimal n) (message_of None))

-- with a message's code
pub status_coded : (k p n : ℕ) (message : Option (List ℕ)) (code : List ℕ) → message ≡ Some code
    → codes "rev " ++ (decimal k ++ (codes " byte " ++ (decimal p ++ (codes " of " ++ (decimal n ++ (codes " " ++ code)))))) ≡ status_of k p n message
status_coded k p n message code some =
    rw some (joined (codes "rev ") (decimal k) (codes " byte ") (decimal p) (codes " of ") (decimal n) (codes " " ++ code))
