-- The lines of a script, each with the word that begins it.
use Rattle.std.specs.Prelude.{ℕ, List, [], ◌∷◌, codes}
use Rattle.cam_script.specs.declared.Form.{Form}
use Rattle.cam_script.specs.declared.Form.TheVariants as forms

abbrev pub form_words : List (List ℕ × Form)
form_words =
    (codes "nodes", forms.Nodes) ∷ (codes "object", forms.Object) ∷ (codes "begin", forms.Begin)
    ∷ (codes "call", forms.Call) ∷ (codes "deliver", forms.Deliver) ∷ (codes "ask", forms.Ask)
    ∷ (codes "commit", forms.Commit) ∷ (codes "abort", forms.Abort) ∷ (codes "giveup", forms.GiveUp)
    ∷ (codes "tell", forms.Tell) ∷ (codes "lose", forms.Lose) ∷ (codes "drain", forms.Drain)
    ∷ (codes "restart", forms.Restart) ∷ (codes "query", forms.Query) ∷ (codes "cut", forms.Cut)
    ∷ (codes "body", forms.Body) ∷ (codes "child", forms.Child) ∷ (codes "end", forms.End)
    ∷ (codes "start", forms.Start) ∷ (codes "go", forms.Go) ∷ (codes "play", forms.Play)
    ∷ (codes "stop", forms.Stop) ∷ []
