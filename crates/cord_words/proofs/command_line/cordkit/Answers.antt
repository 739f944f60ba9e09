use Rattle.cord_words.specs.Words.{cordkit_app}
use Rattle.cord_words.proofs.command_line.cordkit.Goals as goal

pub returns : goal.returns
unfolding cordkit_app
returns c =
    let none = c.with_flags-command.ensures.app _ c.titled.ensures.app in
    let one = c.add_tool-command.ensures _ _ none c.command.ensures.app in
    let two = c.add_tool-command-2.ensures _ _ one c.command-2.ensures.app in
    let three = c.add_tool-command-3.ensures _ _ two c.command-3.ensures.app in
    let four = c.add_tool-command-4.ensures _ _ three c.command-4.ensures.app in
    let five = c.add_tool-command-5.ensures _ _ four c.command-5.ensures.app in
    let six = c.add_tool-command-6.ensures _ _ five c.command-6.ensures.app in
    let seven = c.add_tool-command-7.ensures _ _ six c.command-7.ensures.app in
    let eight = c.add_tool-command-8.ensures _ _ seven c.command-8.ensures.app in
    let nine = c.add_tool-command-9.ensures _ _ eight c.command-9.ensures.app in
    let ten = c.add_tool-command-10.ensures _ _ nine c.command-10.ensures.app in
    let eleven = c.add_tool-command-11.ensures _ _ ten c.command-11.ensures.app in
    let twelve = c.add_tool-command-12.ensures _ _ eleven c.command-12.ensures.app in
    let thirteen = c.add_tool-command-13.ensures _ _ twelve c.command-13.ensures.app in
    c.add_tool.ensures _ _ thirteen c.command-14.ensures.app
