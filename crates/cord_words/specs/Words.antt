-- The program's command line, and what an action holds of it.
use Rattle.std.specs.Prelude.{◌≡◌, ◌⊎◌, ◌∷◌, ◌||◌, ⊤, ℕ, Bool, true, false, List, [], Option, Some, None, Ok, String}
use Rattle.std.specs.Prelude.{All, IfSome, codes, if◌then◌else◌, is_some, map, not, string_bytes, unwrap_or}
use Rattle.std.specs.List.{AllZip}
use Rattle.std.specs.Option.{option_map, option_map_or}
use Rattle.std.specs.Str.{bytes_eq}
use Rattle.std.specs.Str.Parse.{ParsesUnsigned}
use Rattle.std.specs.declared.num.ParseIntError.{ParseIntError}
use Rattle.clap.specs.Words.{App, Kinds, Row, Rule, Text, all_of, fault_of, first_of, matches_of, new_app}
use Rattle.clap.specs.Words.{new_rule, subcommand_of, with_rule, with_subcommand}
use Rattle.clap.specs.Simple.{on_top}
use Rattle.clap.specs.Kinds.{or_else}
use Rattle.clap.specs.declared.builder.action.ArgAction.TheVariants.{Append, SetTrue}
use Rattle.clap.specs.declared.error.kind.ErrorKind.TheVariants.{ArgumentConflict, MissingRequiredArgument, ValueValidation}
use Rattle.cord_words.specs.declared.request.Request.{Request}
use Rattle.cord_words.specs.declared.action.Action.{Action}
use Rattle.cord_words.specs.declared.action.Action.TheVariants.{CheckInput, Check, Show, Cut, Join, Find, Cmp, Edit, Discard, Migrate, Log, Blame, Apply, Commit, Restore, Serve}

-- ---- the words that the program takes

abbrev pub required_rule : Text → Rule
required_rule id = record (new_rule id) { required = true }

abbrev pub image_rule : Rule
image_rule = required_rule (codes "IMAGE")

abbrev pub revision_rule : Rule
revision_rule = required_rule (codes "REV")

-- one value or none
abbrev pub optional_revision_rule : Rule
optional_revision_rule = new_rule (codes "REV")

-- any number of values, none of which is required
abbrev pub sources_rule : Rule
sources_rule = record (new_rule (codes "SOURCE")) { action = Some Append }

abbrev pub start_rule : Rule
start_rule = required_rule (codes "START")

abbrev pub file_rule : Rule
file_rule = required_rule (codes "FILE")

-- one value or more
abbrev pub files_rule : Rule
files_rule = record file_rule { action = Some Append }

-- the option `--at-most LOOKS`
abbrev pub limit_rule : Rule
limit_rule = record (new_rule (codes "LOOKS")) { long = Some (codes "at-most") }

-- the option `--length LENGTH`, as often as it is given
abbrev pub length_rule : Rule
length_rule = record (new_rule (codes "LENGTH")) { long = Some (codes "length"); action = Some Append }

-- an option of this name, which has no value
abbrev pub flag_rule : Text → Rule
flag_rule name = record (new_rule name) { long = Some name; action = Some SetTrue }

abbrev pub explain_rule : Rule
explain_rule = flag_rule (codes "explain")

abbrev pub quiet_rule : Rule
quiet_rule = flag_rule (codes "quiet")

-- the flags that the program has and each subcommand: `--explain` and `--quiet`
abbrev pub with_flags : App → App
with_flags a = with_rule (with_rule a explain_rule) quiet_rule

-- `check [--at-most LOOKS] [--length LENGTH]... IMAGE [SOURCE]...`
abbrev pub check_app : App
check_app = with_rule (with_rule (with_rule (with_rule (new_app (codes "check")) limit_rule) length_rule) image_rule)
    sources_rule

-- `show [--at-most LOOKS] IMAGE [REV] [SOURCE]...`
abbrev pub show_app : App
show_app = with_rule (with_rule (with_rule (with_rule (new_app (codes "show")) limit_rule)
    image_rule) optional_revision_rule) sources_rule

-- `cut START COUNT FILE`
abbrev pub cut_app : App
cut_app = with_rule (with_rule (with_rule (new_app (codes "cut")) start_rule)
    (required_rule (codes "COUNT"))) file_rule

-- `join FILE...`
abbrev pub join_app : App
join_app = with_rule (new_app (codes "join")) files_rule

-- `find [--all] START PATTERN FILE`
abbrev pub find_app : App
find_app = with_rule (with_rule (with_rule (with_rule (new_app (codes "find")) (flag_rule (codes "all"))) start_rule)
    (required_rule (codes "PATTERN"))) file_rule

-- `cmp FIRST SECOND`
abbrev pub cmp_app : App
cmp_app = with_rule (with_rule (new_app (codes "cmp")) (required_rule (codes "FIRST")))
    (required_rule (codes "SECOND"))

-- one value or none
abbrev pub optional_file_rule : Rule
optional_file_rule = new_rule (codes "FILE")

-- the value of `--keep`, or none
abbrev pub keep_rule : Rule
keep_rule = record (new_rule (codes "KEYS")) { long = Some (codes "keep") }

-- the value of `--session`, or none
abbrev pub session_rule : Rule
session_rule = record (new_rule (codes "SESSION")) { long = Some (codes "session") }

-- the value of `--onto` that `edit` has, or none
abbrev pub old_rule : Rule
old_rule = record (new_rule (codes "OLD")) { long = Some (codes "onto") }

-- `edit [--onto OLD] [--keep KEYS] [--session SESSION] [--no-clobber] [--replace] [--discard] IMAGE [FILE]`
abbrev pub edit_app : App
edit_app = with_rule (with_rule (with_rule (with_rule (with_rule (with_rule (with_rule (with_rule (new_app (codes "edit")) old_rule)
    keep_rule) session_rule) (flag_rule (codes "no-clobber"))) (flag_rule (codes "replace"))) (flag_rule (codes "discard")))
    image_rule) optional_file_rule

-- `migrate [--at-most LOOKS] [--length LENGTH]... IMAGE [SOURCE]...`
abbrev pub migrate_app : App
migrate_app = with_rule (with_rule (with_rule (with_rule (new_app (codes "migrate")) limit_rule) length_rule) image_rule)
    sources_rule

-- `log [--at-most LOOKS] [--length LENGTH]... [--brief] IMAGE [SOURCE]...`
abbrev pub log_app : App
log_app = with_rule (with_rule (with_rule (with_rule (with_rule (new_app (codes "log")) limit_rule) length_rule)
    (flag_rule (codes "brief"))) image_rule) sources_rule

-- the option `--start START`
abbrev pub from_rule : Rule
from_rule = record (new_rule (codes "START")) { long = Some (codes "start") }

-- the option `--count COUNT`
abbrev pub count_rule : Rule
count_rule = record (new_rule (codes "COUNT")) { long = Some (codes "count") }

-- `blame [--at-most LOOKS] [--start START] [--count COUNT] IMAGE [REV] [SOURCE]...`
abbrev pub blame_app : App
blame_app = with_rule (with_rule (with_rule (with_rule (with_rule (with_rule (new_app (codes "blame")) limit_rule)
    from_rule) count_rule) image_rule) optional_revision_rule) sources_rule

-- the value of `--onto`, or none
abbrev pub onto_rule : Rule
onto_rule = record (new_rule (codes "IMAGE")) { long = Some (codes "onto") }

-- `apply [--onto IMAGE] [--at-most LOOKS] SCRIPT [SOURCE]...`
abbrev pub apply_app : App
apply_app = with_rule (with_rule (with_rule (with_rule (new_app (codes "apply")) onto_rule) limit_rule)
    (required_rule (codes "SCRIPT"))) sources_rule

-- `commit [--at-most LOOKS] IMAGE FILE [SOURCE]...`
abbrev pub commit_app : App
commit_app = with_rule (with_rule (with_rule (with_rule (new_app (codes "commit")) limit_rule) image_rule) file_rule)
    sources_rule

-- `restore [--at-most LOOKS] IMAGE REV FILE [SOURCE]...`
abbrev pub restore_app : App
restore_app = with_rule (with_rule (with_rule (with_rule (with_rule (new_app (codes "restore")) limit_rule) image_rule)
    revision_rule) file_rule) sources_rule

-- one value or none
abbrev pub optional_source_rule : Rule
optional_source_rule = new_rule (codes "SOURCE")

-- `serve [--at-most LOOKS] IMAGE [SOURCE]`
abbrev pub serve_app : App
serve_app = with_rule (with_rule (with_rule (new_app (codes "serve")) limit_rule) image_rule) optional_source_rule

-- the program's name, and that it has a version
abbrev pub titled_app : App
titled_app = on_top (λ s. record s { has_version = true }) (new_app (codes "cordkit"))

-- the program with one more subcommand
abbrev pub with_tool : App → App → App
with_tool program tool = with_subcommand program (with_flags tool).top

-- the program, as clap is told of it: all its subcommands
unfoldable pub cordkit_app : App
cordkit_app = with_tool (with_tool (with_tool (with_tool (with_tool (with_tool (with_tool (with_tool (with_tool (with_tool (with_tool
    (with_tool (with_tool (with_tool (with_flags titled_app) check_app) show_app) cut_app) join_app) find_app) cmp_app) edit_app) migrate_app)
    log_app) blame_app) apply_app) commit_app) restore_app) serve_app

-- ---- what was given

-- the words of a command line as texts
abbrev pub command_line_texts : {Z : Type 0} → List (String Z) → List Text
command_line_texts = map string_bytes

-- the text of an argument, and the empty text where it has none
abbrev pub argument_text : List Row → Text → Text
argument_text rows id = unwrap_or (first_of id rows) []

-- the texts of an argument in their order, and none where it was not given
abbrev pub argument_texts : List Row → Text → List Text
argument_texts rows id = unwrap_or (all_of id rows) []

-- the flag was given
abbrev pub is_set : List Row → Text → Bool
is_set rows id = option_map_or (λ t. bytes_eq t (codes "true")) (first_of id rows) false

-- the text reads as this `u64`
abbrev pub ReadsAs : Text → ℕ → Type 0
ReadsAs t n = ParsesUnsigned {E = ParseIntError} 64 10 t (Ok n)

abbrev pub IsNumber : Text → Type 0
IsNumber t = (n : ℕ) × ReadsAs t n

-- the same of a text that may be left out
abbrev pub MayReadAs : Option Text → Option ℕ → Type 0
MayReadAs None n = n ≡ None
MayReadAs (Some t) None = ⊥
MayReadAs (Some t) (Some n) = ReadsAs t n

-- the text names the revision of this number, or the last one, as no text does
abbrev pub NamesRevision : Option Text → Option ℕ → Type 0
NamesRevision None k = k ≡ None
NamesRevision (Some t) None = t ≡ codes "last"
NamesRevision (Some t) (Some k) = ReadsAs t k

-- a text that names a revision
abbrev pub IsRevisionWord : Text → Type 0
IsRevisionWord t = (t ≡ codes "last") ⊎ IsNumber t

-- the texts read as these numbers, one by one
abbrev pub EachReadsAs : List Text → List ℕ → Type 0
EachReadsAs = AllZip ReadsAs

-- this subcommand was given, with such arguments
abbrev pub Gives : Option (Text × List Row) → Text → (List Row → Type 0) → Type 0
Gives given name P = (rows : List Row) × (given ≡ Some (name, rows)) × P rows

-- a word of `edit` was given that is for a session
abbrev pub names_session : List Row → Bool
names_session rows = is_some (first_of (codes "OLD") rows) || (is_some (first_of (codes "KEYS") rows)
    || (is_some (first_of (codes "SESSION") rows) || (is_set rows (codes "no-clobber")
    || (is_set rows (codes "replace") || is_some (first_of (codes "FILE") rows)))))

-- `apply` has `--at-most` only where it has `--onto`
abbrev pub limits_a_check : List Row → Bool
limits_a_check rows = is_some (first_of (codes "IMAGE") rows) || not (is_some (first_of (codes "LOOKS") rows))

-- the action is the subcommand that was given, with the texts and the numbers of its arguments
abbrev pub Holds : Option (Text × List Row) → Action → Type 0
Holds given CheckInput = given ≡ None
Holds given (Check at_most lengths image sources) = Gives given (codes "check") (λ rows.
    MayReadAs (first_of (codes "LOOKS") rows) at_most
    × EachReadsAs (argument_texts rows (codes "LENGTH")) lengths.numbers.items
    × (image.now ≡ argument_text rows (codes "IMAGE"))
    × (map (λ s. s.now) sources.items ≡ argument_texts rows (codes "SOURCE")))
Holds given (Show at_most image revision sources) = Gives given (codes "show") (λ rows.
    MayReadAs (first_of (codes "LOOKS") rows) at_most
    × (image.now ≡ argument_text rows (codes "IMAGE")) × NamesRevision (first_of (codes "REV") rows) revision
    × (map (λ s. s.now) sources.items ≡ argument_texts rows (codes "SOURCE")))
Holds given (Cut start count file) = Gives given (codes "cut") (λ rows.
    ReadsAs (argument_text rows (codes "START")) start × ReadsAs (argument_text rows (codes "COUNT")) count
    × (file.now ≡ argument_text rows (codes "FILE")))
Holds given (Join files) = Gives given (codes "join") (λ rows.
    map (λ s. s.now) files.items ≡ argument_texts rows (codes "FILE"))
Holds given (Find all start pattern file) = Gives given (codes "find") (λ rows.
    (all ≡ is_set rows (codes "all")) × ReadsAs (argument_text rows (codes "START")) start
    × (pattern.now ≡ argument_text rows (codes "PATTERN")) × (file.now ≡ argument_text rows (codes "FILE")))
Holds given (Cmp first second) = Gives given (codes "cmp") (λ rows.
    (first.now ≡ argument_text rows (codes "FIRST")) × (second.now ≡ argument_text rows (codes "SECOND")))
Holds given (Edit onto keys session no_clobber replace image file) = Gives given (codes "edit") (λ rows.
    (is_set rows (codes "discard") ≡ false)
    × (option_map (λ o. o.now) onto ≡ first_of (codes "OLD") rows)
    × (option_map (λ k. k.now) keys ≡ first_of (codes "KEYS") rows)
    × (option_map (λ s. s.now) session ≡ first_of (codes "SESSION") rows)
    × (no_clobber ≡ is_set rows (codes "no-clobber"))
    × (replace ≡ is_set rows (codes "replace"))
    × (image.now ≡ argument_text rows (codes "IMAGE"))
    × (option_map (λ f. f.now) file ≡ first_of (codes "FILE") rows))
Holds given (Discard keys) = Gives given (codes "edit") (λ rows.
    (is_set rows (codes "discard") ≡ true) × (names_session rows ≡ false)
    × (keys.now ≡ argument_text rows (codes "IMAGE")))
Holds given (Migrate at_most lengths image sources) = Gives given (codes "migrate") (λ rows.
    MayReadAs (first_of (codes "LOOKS") rows) at_most
    × EachReadsAs (argument_texts rows (codes "LENGTH")) lengths.numbers.items
    × (image.now ≡ argument_text rows (codes "IMAGE"))
    × (map (λ s. s.now) sources.items ≡ argument_texts rows (codes "SOURCE")))
Holds given (Log at_most lengths brief image sources) = Gives given (codes "log") (λ rows.
    MayReadAs (first_of (codes "LOOKS") rows) at_most
    × EachReadsAs (argument_texts rows (codes "LENGTH")) lengths.numbers.items
    × (brief ≡ is_set rows (codes "brief"))
    × (image.now ≡ argument_text rows (codes "IMAGE"))
    × (map (λ s. s.now) sources.items ≡ argument_texts rows (codes "SOURCE")))
Holds given (Blame at_most start count image revision sources) = Gives given (codes "blame") (λ rows.
    MayReadAs (first_of (codes "LOOKS") rows) at_most
    × MayReadAs (first_of (codes "START") rows) start × MayReadAs (first_of (codes "COUNT") rows) count
    × (image.now ≡ argument_text rows (codes "IMAGE")) × NamesRevision (first_of (codes "REV") rows) revision
    × (map (λ s. s.now) sources.items ≡ argument_texts rows (codes "SOURCE")))
Holds given (Apply onto at_most script sources) = Gives given (codes "apply") (λ rows.
    (limits_a_check rows ≡ true)
    × (option_map (λ i. i.now) onto ≡ first_of (codes "IMAGE") rows)
    × MayReadAs (first_of (codes "LOOKS") rows) at_most
    × (script.now ≡ argument_text rows (codes "SCRIPT"))
    × (map (λ s. s.now) sources.items ≡ argument_texts rows (codes "SOURCE")))
Holds given (Commit at_most image file sources) = Gives given (codes "commit") (λ rows.
    MayReadAs (first_of (codes "LOOKS") rows) at_most
    × (image.now ≡ argument_text rows (codes "IMAGE")) × (file.now ≡ argument_text rows (codes "FILE"))
    × (map (λ s. s.now) sources.items ≡ argument_texts rows (codes "SOURCE")))
Holds given (Restore at_most image revision file sources) = Gives given (codes "restore") (λ rows.
    MayReadAs (first_of (codes "LOOKS") rows) at_most
    × (image.now ≡ argument_text rows (codes "IMAGE")) × NamesRevision (first_of (codes "REV") rows) revision
    × (file.now ≡ argument_text rows (codes "FILE"))
    × (map (λ s. s.now) sources.items ≡ argument_texts rows (codes "SOURCE")))
Holds given (Serve at_most image source) = Gives given (codes "serve") (λ rows.
    MayReadAs (first_of (codes "LOOKS") rows) at_most
    × (image.now ≡ argument_text rows (codes "IMAGE"))
    × (option_map (λ s. s.now) source ≡ first_of (codes "SOURCE") rows))

-- the matches of the program's own arguments
abbrev pub own_rows : List Text → List Row
own_rows = matches_of cordkit_app

-- the flag of this name stands before the subcommand or behind it
abbrev pub is_said : List Row → Option (Text × List Row) → Text → Bool
is_said own given flag = is_set own flag || option_map_or (λ rows. is_set rows flag) (option_map (λ p. p.1) given) false

-- a request is what the words say
pub record Asks (words : List Text) (request : Request) : Type 0 where
  pub action : Holds (subcommand_of cordkit_app words) request.action
  pub explain : request.explain ≡ is_said (own_rows words) (subcommand_of cordkit_app words) (codes "explain")
  pub quiet : request.quiet ≡ is_said (own_rows words) (subcommand_of cordkit_app words) (codes "quiet")

abbrev pub IsOneOf : List Text → Text → Type 0
IsOneOf [] n = ⊥
IsOneOf (x ∷ xs) n = (n ≡ x) ⊎ IsOneOf xs n

abbrev pub subcommand_names : List Text
subcommand_names = codes "check" ∷ codes "show" ∷ codes "cut" ∷ codes "join" ∷ codes "find"
    ∷ codes "cmp" ∷ codes "edit" ∷ codes "migrate" ∷ codes "log" ∷ codes "blame" ∷ codes "apply"
    ∷ codes "commit" ∷ codes "restore" ∷ codes "serve" ∷ []

-- the subcommand that was given, if any, is one of the program's own, and not `help`
abbrev pub IsKnown : Option (Text × List Row) → Type 0
IsKnown None = ⊤
IsKnown (Some p) = IsOneOf subcommand_names p.0

-- where this subcommand was given, its arguments are so
abbrev pub WhereGiven : Option (Text × List Row) → Text → (List Row → Type 0) → Type 0
WhereGiven given name P = (rows : List Row) → given ≡ Some (name, rows) → P rows

-- the limit of looks and each length is a number
abbrev pub LimitAndLengthsRead : List Row → Type 0
LimitAndLengthsRead rows =
    IfSome (first_of (codes "LOOKS") rows) IsNumber × All IsNumber (argument_texts rows (codes "LENGTH"))

-- each word that stands for a number or a revision is one
pub record NumbersRead (given : Option (Text × List Row)) : Type 0 where
  pub check : WhereGiven given (codes "check") LimitAndLengthsRead
  pub show : WhereGiven given (codes "show") (λ rows.
      IfSome (first_of (codes "LOOKS") rows) IsNumber × IfSome (first_of (codes "REV") rows) IsRevisionWord)
  pub cut : WhereGiven given (codes "cut") (λ rows.
      IsNumber (argument_text rows (codes "START")) × IsNumber (argument_text rows (codes "COUNT")))
  pub find : WhereGiven given (codes "find") (λ rows. IsNumber (argument_text rows (codes "START")))
  pub migrate : WhereGiven given (codes "migrate") LimitAndLengthsRead
  pub log : WhereGiven given (codes "log") LimitAndLengthsRead
  pub blame : WhereGiven given (codes "blame") (λ rows.
      IfSome (first_of (codes "LOOKS") rows) IsNumber × IfSome (first_of (codes "START") rows) IsNumber
      × IfSome (first_of (codes "COUNT") rows) IsNumber × IfSome (first_of (codes "REV") rows) IsRevisionWord)
  pub apply : WhereGiven given (codes "apply") (λ rows. IfSome (first_of (codes "LOOKS") rows) IsNumber)
  pub commit : WhereGiven given (codes "commit") (λ rows. IfSome (first_of (codes "LOOKS") rows) IsNumber)
  pub restore : WhereGiven given (codes "restore") (λ rows.
      IfSome (first_of (codes "LOOKS") rows) IsNumber × IfSome (first_of (codes "REV") rows) IsRevisionWord)
  pub serve : WhereGiven given (codes "serve") (λ rows. IfSome (first_of (codes "LOOKS") rows) IsNumber)

-- `--discard` stands beside no word that is for a session
abbrev pub DiscardsAlone : Option (Text × List Row) → Type 0
DiscardsAlone given = WhereGiven given (codes "edit") (λ rows.
    is_set rows (codes "discard") ≡ true → names_session rows ≡ false)

-- `--at-most` stands beside `--onto`, where `apply` has it
abbrev pub LimitsACheck : Option (Text × List Row) → Type 0
LimitsACheck given = WhereGiven given (codes "apply") (λ rows. limits_a_check rows ≡ true)

-- the kind of a refusal of words of `apply` that clap takes: the limit stands beside no image, or it does not read
abbrev pub apply_kinds : List Row → Kinds
apply_kinds rows = if limits_a_check rows then ValueValidation ∷ [] else MissingRequiredArgument ∷ []

-- the kind of a refusal of words of a subcommand that clap takes: words of `edit` or of `apply` that do not go together,
-- or a number that does not read; `join` and `cmp` have neither
abbrev pub kinds_of : Text → List Row → Kinds
kinds_of name rows =
    if bytes_eq name (codes "edit") then ArgumentConflict ∷ []
    else (if bytes_eq name (codes "apply") then apply_kinds rows
    else (if bytes_eq name (codes "join") || bytes_eq name (codes "cmp") then [] else ValueValidation ∷ []))

abbrev pub own_kinds : Option (Text × List Row) → Kinds
own_kinds None = []
own_kinds (Some p) = kinds_of p.0 p.1

-- the kinds of a refusal: that of clap's first fault, or that of words that it takes
abbrev pub refusal_kinds : List Text → Kinds
refusal_kinds words = or_else (fault_of cordkit_app words) (own_kinds (subcommand_of cordkit_app words))
