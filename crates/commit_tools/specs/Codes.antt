-- What a commit answers, as it is printed.
use Rattle.std.specs.Prelude.{ℕ, List, ◌++◌, codes}
use Rattle.std.specs.Fmt.{decimal}
use Rattle.commit_tools.specs.declared.answer.Commit.{Commit}
use Rattle.commit_tools.specs.declared.answer.Commit.TheVariants.{Same, Added}

abbrev pub answer_text : Commit → List ℕ
answer_text (Same revision) = codes "same " ++ decimal revision
answer_text (Added revision) = codes "committed " ++ decimal revision
