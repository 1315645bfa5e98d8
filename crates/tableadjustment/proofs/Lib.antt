pub mod FigureCalls
